-- What a reader has given, from one call to the next.
use Rattle.std.proofs.Common.{◌≡◌, ℕ, ◌+◌, ◌-◌, ◌<◌, ◌≤◌, ◌⊎◌, inl, inr, Bool, true, false, ◌||◌, List, [], ◌++◌, length, length-append, length-take, take, drop, refl, arith, ap, sym, subst, ◌∙◌, append_assoc, Result, Ok, Err, Option, Some, None, IfSome, MatchOption}
use Rattle.std.proofs.lemmas.List.{take-append-drop}
use Rattle.std.proofs.Math.Seq.{take-append-add}
use Rattle.skopeo_outside.specs.Wire.{Conversations, GoesOn, with_received}
use Rattle.skopeo_outside.proofs.WireLemmas.{receives_none, receives_more, append_none}
use Rattle.http_message.specs.declared.fault.AnswerFault.{AnswerFault}
use Rattle.http_message.specs.declared.framing.Framing.{Framing}
use Rattle.http_message.specs.declared.framing.Framing.TheVariants.{Sized, Chunked, ToEnd, Wrong}
use Rattle.http_message.specs.Outcome.{Outcome, answer, bad_answer, encoded, unfinished, head_too_long, headers_too_many, body_too_long, outcome_of}
use Rattle.http_message.specs.Bodies.{TooFew, NoSizedBody, NoBodyToEnd}
use Rattle.http_message.specs.ChunkedBody.{ChunkedBody, NoNextChunk, no_data, overflows}
use Rattle.http_message.specs.Spelling.{FramedBody, NoFramedBody}
use Rattle.http_message.proofs.UniqueBlocks.{le_or_lt}
use Rattle.http_exchange.specs.declared.state.State.{State}
use Rattle.http_exchange.specs.declared.state.State.TheVariants.{Left, Open, Line, Chunk, Over}
use Rattle.http_exchange.specs.Received.{Held, Receives}
use Rattle.http_exchange.specs.Found.{Given, SomeGiven, NoneCame, NoByteCame}
use Rattle.http_exchange.specs.Streaming.{IsBody, IsNoBody, IsFront, IsPassed}
use Rattle.http_exchange.specs.Reader.{InChunk, Stands, Streams, Settles, GaveOr, Gives, Reader, NextOr, NextPiece, is_over}
use Rattle.http_exchange.proofs.Rounds.{noted_none, noted_more}
use Rattle.http_exchange.proofs.ChunkRuns.{line-append, chunks-append, last-append, chunks_whole, part_front}
use Rattle.http_exchange.proofs.Settling.{still, or_was, no_chunked, too_few, stands_same, whole_content}

-- a piece of some bytes is none
pub some_piece : (n : ℕ) (into : List ℕ) → 0 < n → n ≤ length into → take n into ≡ [] → ⊥
some_piece n into some le e = omega (arith, some, length-take n into, ap (λ (w : List ℕ). length w) e)

-- what came is what was given, the piece, and what waits
joined : (given waiting added into after seen : List ℕ) (n : ℕ) → seen ≡ given ++ waiting → take n into ≡ take n (waiting ++ added)
    → after ≡ drop n (waiting ++ added) → seen ++ added ≡ (given ++ take n into) ++ after
joined given waiting added into after seen n e piece rest =
    ap (λ (w : List ℕ). w ++ added) e ∙ append_assoc given waiting added
    ∙ ap (λ (w : List ℕ). given ++ w) (sym (take-append-drop n (waiting ++ added))
    ∙ ap (λ (v : List ℕ). v ++ drop n (waiting ++ added)) (sym piece) ∙ ap (λ (v : List ℕ). take n into ++ v) (sym rest))
    ∙ sym (append_assoc given (take n into) after)

-- all that came was given
all_given : (given waiting added seen : List ℕ) → seen ≡ given ++ waiting → waiting ++ added ≡ [] → seen ++ added ≡ given
all_given given waiting added seen e none =
    ap (λ (w : List ℕ). w ++ added) e ∙ append_assoc given waiting added ∙ ap (λ (w : List ℕ). given ++ w) none ∙ append_none given

-- ---- fronts

pub sized_front : (f : Framing) (size left : ℕ) (given after seen : List ℕ) → f ≡ Sized size → seen ≡ given ++ after → size ≡ length given + left
    → IsFront f given seen
sized_front f size left given after seen is e len = record { front = λ limit more body ended b. by_body limit more body ended (subst (λ (g : Framing). FramedBody g limit body (seen ++ more) ended) is b) }
  where
    by_body : (limit : ℕ) (more body : List ℕ) (ended : Bool) → FramedBody (Sized size) limit body (seen ++ more) ended → (tail : List ℕ) × (body ≡ given ++ tail)
    by_body limit more body ended b = (
      take left (after ++ more),
      b.body_is ∙ ap (λ (w : List ℕ). take size (w ++ more)) e ∙ ap (λ (w : List ℕ). take size w) (append_assoc given after more)
          ∙ ap (λ (k : ℕ). take k (given ++ (after ++ more))) len ∙ take-append-add given (after ++ more) left,
    )

pub open_front : (f : Framing) (given after seen : List ℕ) → f ≡ ToEnd → seen ≡ given ++ after → IsFront f given seen
open_front f given after seen is e = record { front = λ limit more body ended b. by_body limit more body ended (subst (λ (g : Framing). FramedBody g limit body (seen ++ more) ended) is b) }
  where
    by_body : (limit : ℕ) (more body : List ℕ) (ended : Bool) → FramedBody ToEnd limit body (seen ++ more) ended → (tail : List ℕ) × (body ≡ given ++ tail)
    by_body limit more body ended b = (after ++ more, b.1 ∙ ap (λ (w : List ℕ). w ++ more) e ∙ append_assoc given after more)

pub chunk_front : (f : Framing) (left : ℕ) (given seen waiting : List ℕ) → f ≡ Chunked → InChunk left given seen waiting → IsFront f given seen
chunk_front f left given seen waiting is c = record { front = λ limit more body ended b. by_body limit more body (subst (λ (g : Framing). FramedBody g limit body (seen ++ more) ended) is b) }
  where
    by_body : (limit : ℕ) (more body : List ℕ) → ChunkedBody limit body (seen ++ more) → (tail : List ℕ) × (body ≡ given ++ tail)
    by_body limit more body b =
        let q = part_front limit c.count (seen ++ more) c.had (c.here ++ more) body c.n c.size c.part (waiting ++ more)
        (chunks-append c.count seen more c.had c.here c.chunks) (line-append c.here more c.n c.size c.line) c.some
        (whole_content c.here c.part waiting more c.n c.size c.line c.content) (omega (arith, c.left_is)) b in
        (q.0, q.1 ∙ ap (λ (w : List ℕ). w ++ q.0) (sym c.given_is))

pub body_front : (f : Framing) (given seen : List ℕ) (was : Bool) → IsBody f given seen was → IsFront f given seen
body_front Wrong given seen was is = absurd (is.whole (length given) (omega arith))
body_front (Sized size) given seen was is =
    let b = is.whole (length given) (omega arith) in
    let len : length given ≡ size = ap (λ (w : List ℕ). length w) b.body_is ∙ omega (arith, length-take size seen, b.whole) in
    sized_front (Sized size) size 0 given (drop size seen) seen refl
    (sym (take-append-drop size seen) ∙ ap (λ (w : List ℕ). w ++ drop size seen) (sym b.body_is)) (omega (arith, len))
body_front ToEnd given seen was is =
    let b = is.whole (length given) (omega arith) in
    open_front ToEnd given [] seen refl (sym b.1 ∙ sym (append_none given))
body_front Chunked given seen was is = record { front = λ limit more body ended c. by_body limit more body (is.whole (length given) (omega arith)) c }
  where
    by_body : (limit : ℕ) (more body : List ℕ) → ChunkedBody (length given) given seen → ChunkedBody limit body (seen ++ more)
        → (tail : List ℕ) × (body ≡ given ++ tail)
    by_body limit more body b c = (
      [],
      chunks_whole limit b.count (seen ++ more) given (b.here ++ more) body (chunks-append b.count seen more given b.here b.chunks) (last-append b.here more b.last) c
          ∙ sym (append_none given),
    )

-- ---- a body of a stated length

pub sized_gave : {a b : Conversations} {h k : Held} (left n : ℕ) (into : List ℕ) → Receives a b h k (SomeGiven left into k.waiting) NoByteCame (Ok n)
    → Gives a b h k (Left left) into (Ok (n, Left (left - n)))
sized_gave {a} {b} {h} {k} left n into q = record {
  added = q.added;
  ended = q.ended;
  told = q.told;
  noted = q.noted;
  room = q.gives.1.room;
  more = q.gives.1.some;
  gave = gave;
}
  where
    some : 0 < n
    some = q.gives.0

    p : Given left into k.waiting n (h.waiting ++ q.added) q.ended
    p = q.gives.1

    gave : (f : Framing) (given seen : List ℕ) (was : Bool) → Stands (Left left) f given seen was h.waiting
        → GaveOr f given into (seen ++ q.added) (q.ended || was) k.waiting (Ok (n, Left (left - n)))
    gave f given seen was st =
        let e = joined given h.waiting q.added into k.waiting seen n st.1 p.piece p.after_is in
        let piece : length (take n into) ≡ n = omega (arith, length-take n into, p.room) in
        let len : length given + left ≡ length (given ++ take n into) + (left - n) = omega (arith, length-append {A = ℕ} given (take n into), piece, p.within) in
        let all : length (seen ++ q.added) ≡ length (given ++ take n into) + length k.waiting = ap (λ (w : List ℕ). length w) e ∙ length-append {A = ℕ} (given ++ take n into) k.waiting in record {
          stands = (st.0 ∙ ap Sized len, e, still q.ended was (p.some some) st.2);
          front = sized_front f (length given + left) (left - n) (given ++ take n into) k.waiting (seen ++ q.added) st.0 e len;
          passed = record {
            passed = λ limit fits over. subst (λ (g : Framing). NoFramedBody g limit (body_too_long (limit + 1)) (seen ++ q.added) (q.ended || was)) (sym st.0)
                (refl, omega (arith, over, len), omega (arith, over, all));
          };
          whole = λ none. absurd (some_piece n into some p.room none);
        }

-- no byte of a body came, of which some are left
no_sized : (size limit : ℕ) (o : Outcome) (all came : List ℕ) (ended : Bool) → length all < size → length all ≤ limit → TooFew 1 o came ended
    → NoSizedBody size limit o all ended
no_sized size limit bad_answer all came ended less fits t = (t.0, less, fits)
no_sized size limit unfinished all came ended less fits t = (t.0, less, fits)
no_sized size limit (answer r) all came ended less fits t = absurd t
no_sized size limit encoded all came ended less fits t = absurd t
no_sized size limit (head_too_long n) all came ended less fits t = absurd t
no_sized size limit (headers_too_many n) all came ended less fits t = absurd t
no_sized size limit (body_too_long n) all came ended less fits t = absurd t

pub sized_stops : {a b : Conversations} {h k : Held} (left : ℕ) (into : List ℕ) (e : AnswerFault) → 0 < left
    → Receives a b h k (SomeGiven left into k.waiting) NoByteCame (Err e) → Gives a b h k (Left left) into (Err e)
sized_stops {a} {b} {h} {k} left into e some q = record {
  added = q.added;
  ended = q.ended;
  told = q.told;
  noted = q.noted;
  room = tt;
  more = tt;
  gave = λ f given seen was st. by_cause f given seen was st (outcome_of e) q.gives;
}
  where
    none : (f : Framing) (given seen : List ℕ) (was : Bool) → Stands (Left left) f given seen was h.waiting → (u : Outcome)
        → NoByteCame u (h.waiting ++ q.added) q.ended → IsNoBody f given u (seen ++ q.added) (q.ended || was)
    none f given seen was st u n =
        let all : length (seen ++ q.added) ≡ length given = ap (λ (w : List ℕ). length w) (all_given given h.waiting q.added seen st.1 n.0) in
        record {
          none = λ limit fits. subst (λ (g : Framing). NoFramedBody g limit u (seen ++ q.added) (q.ended || was)) (sym st.0)
              (no_sized (length given + left) limit u (seen ++ q.added) (h.waiting ++ q.added) (q.ended || was) (omega (arith, all, some)) (omega (arith, all, fits))
              (subst (λ (t : Bool). TooFew 1 u (h.waiting ++ q.added) t) (sym (or_was q.ended was st.2)) n.1));
        }

    by_cause : (f : Framing) (given seen : List ℕ) (was : Bool) → Stands (Left left) f given seen was h.waiting
        → (o : Option Outcome) → IfSome o (λ u. NoByteCame u (h.waiting ++ q.added) q.ended) → IfSome o (λ u. IsNoBody f given u (seen ++ q.added) (q.ended || was))
    by_cause f given seen was st None n = tt
    by_cause f given seen was st (Some u) n = none f given seen was st u n

-- ---- a body that goes to the end

pub open_gave : {a b : Conversations} {h k : Held} (most n : ℕ) (into : List ℕ) → 0 < n → Receives a b h k (Given most into k.waiting) NoneCame (Ok n)
    → Gives a b h k Open into (Ok (n, Open))
open_gave {a} {b} {h} {k} most n into some q = record {
  added = q.added;
  ended = q.ended;
  told = q.told;
  noted = q.noted;
  room = q.gives.room;
  more = q.gives.some;
  gave = λ f given seen was st.
      let p = q.gives in
      let e = joined given h.waiting q.added into k.waiting seen n st.1 p.piece p.after_is in
      let all : length (seen ++ q.added) ≡ length (given ++ take n into) + length k.waiting = ap (λ (w : List ℕ). length w) e ∙ length-append {A = ℕ} (given ++ take n into) k.waiting in record {
        stands = (st.0, e, still q.ended was (p.some some) st.2);
        front = open_front f (given ++ take n into) k.waiting (seen ++ q.added) st.0 e;
        passed = record {
          passed = λ limit fits over. subst (λ (g : Framing). NoFramedBody g limit (body_too_long (limit + 1)) (seen ++ q.added) (q.ended || was)) (sym st.0)
              (refl, omega (arith, over, all));
        };
        whole = λ none. absurd (some_piece n into some p.room none);
      };
}

-- nothing was given, so no limit is passed
pub none_passed : (f : Framing) (given seen : List ℕ) (ended : Bool) → IsPassed f given [] seen ended
none_passed f given seen ended = record { passed = λ limit fits over. absurd (omega (arith, fits, over, ap (λ (w : List ℕ). length w) (append_none given))) }

-- the whole body was given, and nothing more
nothing_gave : (f : Framing) (given into seen waiting : List ℕ) (ended : Bool) → IsBody f given seen ended
    → GaveOr f given into seen ended waiting (Ok (0, Over))
nothing_gave f given into seen waiting ended is = record {
  stands = subst (λ (w : List ℕ). IsBody f w seen ended) (sym (append_none given)) is;
  front = subst (λ (w : List ℕ). IsFront f w seen) (sym (append_none given)) (body_front f given seen ended is);
  passed = none_passed f given seen ended;
  whole = λ none. is;
}

pub open_over : {a b : Conversations} {h k : Held} (most n : ℕ) (into : List ℕ) → n ≡ 0 → Receives a b h k (Given most into k.waiting) NoneCame (Ok n)
    → Gives a b h k Open into (Ok (0, Over))
open_over {a} {b} {h} {k} most n into zero_given q = record {
  added = q.added;
  ended = q.ended;
  told = q.told;
  noted = q.noted;
  room = omega arith;
  more = λ s. absurd (omega arith);
  gave = λ f given seen was st.
      let end = q.gives.none zero_given in
      let all = all_given given h.waiting q.added seen st.1 end.1 in
      nothing_gave f given into (seen ++ q.added) k.waiting (q.ended || was) (record {
        whole = λ limit fits. subst (λ (g : Framing). FramedBody g limit given (seen ++ q.added) (q.ended || was)) (sym st.0)
            (or_was q.ended was st.2 ∙ end.0, sym all, omega (arith, fits, ap (λ (w : List ℕ). length w) all));
      });
}

pub open_stops : {a b : Conversations} {h k : Held} (most : ℕ) (into : List ℕ) (e : AnswerFault)
    → Receives a b h k (Given most into k.waiting) NoneCame (Err e) → Gives a b h k Open into (Err e)
open_stops {a} {b} {h} {k} most into e q = record {
  added = q.added;
  ended = q.ended;
  told = q.told;
  noted = q.noted;
  room = tt;
  more = tt;
  gave = λ f given seen was st. by_cause f given seen was st (outcome_of e) q.gives;
}
  where
    none : (f : Framing) (given seen : List ℕ) (was : Bool) → Stands Open f given seen was h.waiting → (u : Outcome)
        → NoneCame u (h.waiting ++ q.added) q.ended → IsNoBody f given u (seen ++ q.added) (q.ended || was)
    none f given seen was st u n =
        let all = all_given given h.waiting q.added seen st.1 n.2 in
        record {
          none = λ limit fits. subst (λ (g : Framing). NoFramedBody g limit u (seen ++ q.added) (q.ended || was)) (sym st.0)
              (subst (λ (o : Outcome). NoBodyToEnd limit o (seen ++ q.added) (q.ended || was)) (sym n.0)
              (still q.ended was n.1 st.2, omega (arith, fits, ap (λ (w : List ℕ). length w) all)));
        }

    by_cause : (f : Framing) (given seen : List ℕ) (was : Bool) → Stands Open f given seen was h.waiting
        → (o : Option Outcome) → IfSome o (λ u. NoneCame u (h.waiting ++ q.added) q.ended) → IfSome o (λ u. IsNoBody f given u (seen ++ q.added) (q.ended || was))
    by_cause f given seen was st None n = tt
    by_cause f given seen was st (Some u) n = none f given seen was st u n

-- ---- the bytes of a chunk

-- what stands behind the line of a chunk, once more of it was given
more_content : (here part waiting added into after : List ℕ) (n k : ℕ) → drop n (here ++ added) ≡ part ++ (waiting ++ added)
    → take k into ≡ take k (waiting ++ added) → after ≡ drop k (waiting ++ added) → drop n (here ++ added) ≡ (part ++ take k into) ++ after
more_content here part waiting added into after n k content piece rest =
    content ∙ ap (λ (w : List ℕ). part ++ w) (sym (take-append-drop k (waiting ++ added))
    ∙ ap (λ (v : List ℕ). v ++ drop k (waiting ++ added)) (sym piece) ∙ ap (λ (v : List ℕ). take k into ++ v) (sym rest))
    ∙ sym (append_assoc part (take k into) after)

pub chunk_gave : {a b : Conversations} {h k : Held} (left n : ℕ) (into : List ℕ) → Receives a b h k (SomeGiven left into k.waiting) NoByteCame (Ok n)
    → Gives a b h k (Chunk left) into (Ok (n, Chunk (left - n)))
chunk_gave {a} {b} {h} {k} left n into q = record {
  added = q.added;
  ended = q.ended;
  told = q.told;
  noted = q.noted;
  room = q.gives.1.room;
  more = q.gives.1.some;
  gave = gave;
}
  where
    some : 0 < n
    some = q.gives.0

    p : Given left into k.waiting n (h.waiting ++ q.added) q.ended
    p = q.gives.1

    piece : length (take n into) ≡ n
    piece = omega (arith, length-take n into, p.room)

    goes_on : (given seen : List ℕ) → InChunk left given seen h.waiting → InChunk (left - n) (given ++ take n into) (seen ++ q.added) k.waiting
    goes_on given seen c = record {
      count = c.count;
      had = c.had;
      here = c.here ++ q.added;
      chunks = chunks-append c.count seen q.added c.had c.here c.chunks;
      n = c.n;
      size = c.size;
      line = line-append c.here q.added c.n c.size c.line;
      some = c.some;
      part = c.part ++ take n into;
      content = more_content c.here c.part h.waiting q.added into k.waiting c.n n
          (whole_content c.here c.part h.waiting q.added c.n c.size c.line c.content) p.piece p.after_is;
      left_is = omega (arith, length-append {A = ℕ} c.part (take n into), piece, c.left_is, p.within);
      given_is = ap (λ (w : List ℕ). w ++ take n into) c.given_is ∙ append_assoc c.had c.part (take n into);
    }

    passed : (f : Framing) (given seen : List ℕ) (ended : Bool) → f ≡ Chunked → InChunk left given seen h.waiting
        → IsPassed f given (take n into) (seen ++ q.added) ended
    passed f given seen ended is c =
        let d = goes_on given seen c in
        let had : length given ≡ length c.had + length c.part = ap (λ (w : List ℕ). length w) c.given_is ∙ length-append {A = ℕ} c.had c.part in
        let now : length (given ++ take n into) ≡ length given + n = length-append {A = ℕ} given (take n into) ∙ ap (λ (m : ℕ). length given + m) piece in
        let bytes : length (drop c.n (c.here ++ q.added)) ≡ (length c.part + n) + length k.waiting
        = ap (λ (w : List ℕ). length w) d.content ∙ length-append {A = ℕ} (c.part ++ take n into) k.waiting
        ∙ ap (λ (m : ℕ). m + length k.waiting) (length-append {A = ℕ} c.part (take n into) ∙ ap (λ (m : ℕ). length c.part + m) piece) in
        record {
          passed = λ limit fits over. subst (λ (g : Framing). NoFramedBody g limit (body_too_long (limit + 1)) (seen ++ q.added) ended) (sym is) (record {
            count = c.count;
            had = c.had;
            here = c.here ++ q.added;
            chunks = d.chunks;
            within = omega (arith, had, fits);
            why = inr (
              c.n,
              c.size,
              d.line,
              overflows c.some (omega (arith, over, now, had, c.left_is, p.within)) (inr (omega (arith, over, now, had, bytes, fits), refl)),
            );
          });
        }

    gave : (f : Framing) (given seen : List ℕ) (was : Bool) → Stands (Chunk left) f given seen was h.waiting
        → GaveOr f given into (seen ++ q.added) (q.ended || was) k.waiting (Ok (n, Chunk (left - n)))
    gave f given seen was st = record {
      stands = (st.0, goes_on given seen st.1, still q.ended was (p.some some) st.2);
      front = chunk_front f (left - n) (given ++ take n into) (seen ++ q.added) k.waiting st.0 (goes_on given seen st.1);
      passed = passed f given seen (q.ended || was) st.0 st.1;
      whole = λ none. absurd (some_piece n into some p.room none);
    }

pub chunk_stops : {a b : Conversations} {h k : Held} (left : ℕ) (into : List ℕ) (e : AnswerFault) → 0 < left
    → Receives a b h k (SomeGiven left into k.waiting) NoByteCame (Err e) → Gives a b h k (Chunk left) into (Err e)
chunk_stops {a} {b} {h} {k} left into e some q = record {
  added = q.added;
  ended = q.ended;
  told = q.told;
  noted = q.noted;
  room = tt;
  more = tt;
  gave = λ f given seen was st. by_cause f given seen was st (outcome_of e) q.gives;
}
  where
    none : (f : Framing) (given seen : List ℕ) (was : Bool) → Stands (Chunk left) f given seen was h.waiting → (u : Outcome)
        → NoByteCame u (h.waiting ++ q.added) q.ended → IsNoBody f given u (seen ++ q.added) (q.ended || was)
    none f given seen was st u n = no_chunked f given (seen ++ q.added) c.had (c.here ++ q.added) c.count u (q.ended || was) st.0
        (chunks-append c.count seen q.added c.had c.here c.chunks) (omega (arith, had)) (λ limit fits. why limit fits (le_or_lt (length c.had + c.size) limit))
      where
        c : InChunk left given seen h.waiting
        c = st.1

        had : length given ≡ length c.had + length c.part
        had = ap (λ (w : List ℕ). length w) c.given_is ∙ length-append {A = ℕ} c.had c.part

        bytes : length (drop c.n (c.here ++ q.added)) ≡ length c.part
        bytes = ap (λ (w : List ℕ). length w) (whole_content c.here c.part h.waiting q.added c.n c.size c.line c.content
            ∙ ap (λ (w : List ℕ). c.part ++ w) n.0 ∙ append_none c.part)

        few : (m : ℕ) → length c.part < m → TooFew m u (drop c.n (c.here ++ q.added)) (q.ended || was)
        few m less = too_few 1 m u (h.waiting ++ q.added) (drop c.n (c.here ++ q.added)) (q.ended || was) (λ _. omega (arith, bytes, less))
            (subst (λ (t : Bool). TooFew 1 u (h.waiting ++ q.added) t) (sym (or_was q.ended was st.2)) n.1)

        why : (limit : ℕ) → length given ≤ limit → (length c.had + c.size ≤ limit) ⊎ (limit < length c.had + c.size)
            → NoNextChunk limit (length c.had) u (c.here ++ q.added) (q.ended || was)
        why limit fits (inl within) = inr (c.n, c.size, line-append c.here q.added c.n c.size c.line, no_data c.some within (inl (few (c.size + 2) (omega (arith, c.left_is)))))
        why limit fits (inr over) = inr (
          c.n,
          c.size,
          line-append c.here q.added c.n c.size c.line,
          overflows c.some over (inl (few (limit - length c.had + 1) (omega (arith, had, fits)))),
        )

    by_cause : (f : Framing) (given seen : List ℕ) (was : Bool) → Stands (Chunk left) f given seen was h.waiting
        → (o : Option Outcome) → IfSome o (λ u. NoByteCame u (h.waiting ++ q.added) q.ended) → IfSome o (λ u. IsNoBody f given u (seen ++ q.added) (q.ended || was))
    by_cause f given seen was st None n = tt
    by_cause f given seen was st (Some u) n = none f given seen was st u n

-- ---- the whole body, again

pub over_gave : (told : Conversations) (h : Held) (into : List ℕ) → Gives told told h h Over into (Ok (0, Over))
over_gave told h into = record {
  added = [];
  ended = false;
  told = receives_none told;
  noted = noted_none h.first;
  room = omega arith;
  more = λ s. absurd (omega arith);
  gave = λ f given seen was st. nothing_gave f given into (seen ++ []) h.waiting was (stands_same Over f given seen h.waiting was st);
}

-- ---- settling, and then giving

pub settle_then : {a b c : Conversations} {h k m : Held} (s ready : State) (into : List ℕ) (r : Result (ℕ × State) AnswerFault)
    → Settles a b h k s (Ok ready) → Gives b c k m ready into r → Gives a c h m s into r
settle_then {a} {b} {c} {h} {k} {m} s ready into r p q = record {
  added = p.added ++ q.added;
  ended = q.ended;
  told = receives_more p.added q.added q.ended a b c (subst (λ (t : Bool). GoesOn (with_received p.added t) a b) p.more p.told) q.told;
  noted = noted_more p.added q.added p.noted q.noted;
  room = q.room;
  more = q.more;
  gave = λ f given seen was st.
      subst (λ (w : List ℕ). GaveOr f given into w (q.ended || was) m.waiting r) (append_assoc seen p.added q.added)
      (q.gave f given (seen ++ p.added) was (subst (λ (t : Bool). Stands ready f given (seen ++ p.added) t k.waiting) (ap (λ (t : Bool). t || was) p.more) (p.settled f given seen was st)));
}

pub settle_stops : {a b : Conversations} {h k : Held} (s : State) (into : List ℕ) (e : AnswerFault) → Settles a b h k s (Err e) → Gives a b h k s into (Err e)
settle_stops s into e p = record {
  added = p.added;
  ended = p.ended;
  told = p.told;
  noted = p.noted;
  room = tt;
  more = tt;
  gave = λ f given seen was st. p.settled f given seen was st;
}

-- ---- a reader that stopped

pub failed_again : (told : Conversations) (r : Reader) (into : List ℕ) (fault : AnswerFault) → r.failed ≡ Some fault → NextPiece told told r r into (Err fault)
failed_again told r into fault is = record {
  added = [];
  ended = false;
  told = receives_none told;
  noted = noted_none r.held.first;
  room = tt;
  more = tt;
  next = λ f given seen was st.
      subst (λ (w : List ℕ). IfSome (outcome_of fault) (λ o. IsNoBody f given o w was)) (sym (append_none seen))
      (subst (λ (x : Option AnswerFault). MatchOption x (Stands r.state f given seen was r.held.waiting) (λ e. IfSome (outcome_of e) (λ o. IsNoBody f given o seen was))) is st);
  alive = tt;
  stays = is;
}

-- ---- a reader that has given the whole body

over_is : (s : State) → is_over s ≡ true → s ≡ Over
over_is (Left left) e = cc
over_is Open e = cc
over_is Line e = cc
over_is (Chunk left) e = cc
over_is Over e = refl

pub over_again : (told : Conversations) (r : Reader) (into : List ℕ) → r.failed ≡ None → is_over r.state ≡ true → NextPiece told told r r into (Ok 0)
over_again told r into alive over = record {
  added = [];
  ended = false;
  told = receives_none told;
  noted = noted_none r.held.first;
  room = omega arith;
  more = λ s. absurd (omega arith);
  next = λ f given seen was st.
      subst (λ (s : State). NextOr f given into (seen ++ []) was (record r { state = s }) (Ok 0)) (sym (over_is r.state over))
      (nothing_gave f given into (seen ++ []) r.held.waiting was (stands_same Over f given seen r.held.waiting was (stands f given seen was st)));
  alive = alive;
  stays = tt;
}
  where
    stands : (f : Framing) (given seen : List ℕ) (was : Bool) → Streams r f given seen was → Stands Over f given seen was r.held.waiting
    stands f given seen was st =
        subst (λ (s : State). Stands s f given seen was r.held.waiting) (over_is r.state over)
        (subst (λ (x : Option AnswerFault). MatchOption x (Stands r.state f given seen was r.held.waiting) (λ e. IfSome (outcome_of e) (λ o. IsNoBody f given o seen was))) alive st)

-- What comes next of a body: from one chunk to the next, and to the end.
use Rattle.std.proofs.Common.{◌≡◌, ℕ, suc, zero, ◌+◌, ◌<◌, ◌≤◌, inl, inr, Bool, true, false, ◌||◌, nat_lt, List, [], ◌∷◌, ◌++◌, length, length-append, take, drop, refl, arith, ap, sym, subst, ◌∙◌, append_assoc, Result, Ok, Err, Option, Some, None, IfSome}
use Rattle.std.proofs.lemmas.List.{drop-append-le, take-append-le, take_all}
use Rattle.std.proofs.lemmas.Bool.Decides.{nat_tests}
use Rattle.skopeo_outside.specs.Wire.{Conversations, GoesOn, with_received}
use Rattle.skopeo_outside.proofs.WireLemmas.{receives_none, receives_more, append_none}
use Rattle.http_message.specs.declared.fault.AnswerFault.{AnswerFault}
use Rattle.http_message.specs.declared.framing.Framing.{Framing}
use Rattle.http_message.specs.declared.framing.Framing.TheVariants.{Chunked}
use Rattle.http_message.specs.Outcome.{Outcome, answer, bad_answer, encoded, unfinished, head_too_long, headers_too_many, body_too_long, outcome_of}
use Rattle.http_message.specs.Bodies.{TooFew}
use Rattle.http_message.specs.Chunks.{StartsWithChunkLine, NoData}
use Rattle.http_message.specs.ChunkedBody.{Chunks, LastChunk, NoNextChunk, no_data}
use Rattle.http_message.specs.Spelling.{FramedBody, NoFramedBody}
use Rattle.http_exchange.specs.declared.state.State.{State}
use Rattle.http_exchange.specs.declared.state.State.TheVariants.{Left, Line, Chunk, Over}
use Rattle.http_exchange.specs.Received.{Held, Receives}
use Rattle.http_exchange.specs.Found.{NextFound, another, last, NoNext, ClosingFound, NoClosing}
use Rattle.http_exchange.specs.Streaming.{IsBody, IsNoBody}
use Rattle.http_exchange.specs.Reader.{InChunk, Stands, is_settled, SettledOr, Settles}
use Rattle.http_exchange.proofs.Rounds.{noted_none, noted_more}
use Rattle.http_exchange.proofs.ChunkRuns.{line-append, chunks-append}

pub still : (ended was : Bool) → ended ≡ false → was ≡ false → (ended || was) ≡ false
still ended was e w = ap (λ (t : Bool). t || was) e ∙ w

pub or_was : (ended was : Bool) → was ≡ false → (ended || was) ≡ ended
or_was true was w = refl
or_was false was w = w

-- chunks, and the last one: the whole body
pub chunked_body : (f : Framing) (given seen here : List ℕ) (count : ℕ) (ended : Bool) → f ≡ Chunked → Chunks count seen given here → LastChunk here
    → IsBody f given seen ended
chunked_body f given seen here count ended is chunks end = record {
  whole = λ limit fits. subst (λ (g : Framing). FramedBody g limit given seen ended) (sym is)
      (record { count = count; here = here; chunks = chunks; last = end; within = fits });
}

-- chunks, and behind them a fault
pub no_chunked : (f : Framing) (given seen had here : List ℕ) (count : ℕ) (o : Outcome) (ended : Bool) → f ≡ Chunked → Chunks count seen had here
    → length had ≤ length given → ((limit : ℕ) → length given ≤ limit → NoNextChunk limit (length had) o here ended)
    → IsNoBody f given o seen ended
no_chunked f given seen had here count o ended is chunks le why = record {
  none = λ limit fits. subst (λ (g : Framing). NoFramedBody g limit o seen ended) (sym is)
      (record { count = count; had = had; here = here; chunks = chunks; within = omega arith; why = why limit fits });
}

-- what is too few of some bytes is too few of others
pub too_few : (k m : ℕ) (o : Outcome) (a b : List ℕ) (ended : Bool) → (length a < k → length b < m) → TooFew k o a ended → TooFew m o b ended
too_few k m bad_answer a b ended f t = (t.0, f t.1)
too_few k m unfinished a b ended f t = (t.0, f t.1)
too_few k m (answer r) a b ended f t = absurd t
too_few k m encoded a b ended f t = absurd t
too_few k m (head_too_long n) a b ended f t = absurd t
too_few k m (headers_too_many n) a b ended f t = absurd t
too_few k m (body_too_long n) a b ended f t = absurd t

some_size : (size : ℕ) → 0 < size → nat_lt 0 size ≡ true
some_size size some = grind (arith, nat_tests)

-- ---- at a chunk line

line_more : (s : State) (after all : List ℕ) (ended : Bool) → NextFound after s all ended → ended ≡ false
line_more s after all ended (another n size line some is rest more) = more
line_more s after all ended (last end is more) = more

line_ready : (s : State) (after all : List ℕ) (ended : Bool) → NextFound after s all ended → is_settled s ≡ true
line_ready s after all ended (another n size line some is rest more) = ap is_settled is ∙ some_size size some
line_ready s after all ended (last end is more) = ap is_settled is

line_found : (s : State) (after waiting added seen given : List ℕ) (ended was : Bool) (f : Framing)
    → NextFound after s (waiting ++ added) ended → Stands Line f given seen was waiting → SettledOr f given (seen ++ added) (ended || was) after (Ok s)
line_found s after waiting added seen given ended was f (another n size line some is rest more) st =
    subst (λ (t : State). Stands t f given (seen ++ added) (ended || was) after) (sym is) (
      st.0,
      record {
        count = st.1.0;
        had = given;
        here = waiting ++ added;
        chunks = chunks-append st.1.0 seen added given waiting st.1.1;
        n = n;
        size = size;
        line = line;
        some = some;
        part = [];
        content = sym rest;
        left_is = omega arith;
        given_is = sym (append_none given);
      },
      still ended was more st.2,
    )
line_found s after waiting added seen given ended was f (last end is more) st =
    subst (λ (t : State). Stands t f given (seen ++ added) (ended || was) after) (sym is)
    (chunked_body f given (seen ++ added) (waiting ++ added) st.1.0 (ended || was) st.0 (chunks-append st.1.0 seen added given waiting st.1.1) end)

pub line_settled : {a b : Conversations} {h k : Held} (r : Result State AnswerFault) → Receives a b h k (NextFound k.waiting) NoNext r → Settles a b h k Line r
line_settled {a} {b} {h} {k} (Ok s) q = record {
  added = q.added;
  ended = q.ended;
  told = q.told;
  noted = q.noted;
  more = line_more s k.waiting (h.waiting ++ q.added) q.ended q.gives;
  ready = line_ready s k.waiting (h.waiting ++ q.added) q.ended q.gives;
  settled = λ f given seen was st. line_found s k.waiting h.waiting q.added seen given q.ended was f q.gives st;
}
line_settled {a} {b} {h} {k} (Err e) q = record {
  added = q.added;
  ended = q.ended;
  told = q.told;
  noted = q.noted;
  more = tt;
  ready = tt;
  settled = λ f given seen was st. by_cause f given seen was st (outcome_of e) q.gives;
}
  where
    by_cause : (f : Framing) (given seen : List ℕ) (was : Bool) → Stands Line f given seen was h.waiting
        → (o : Option Outcome) → IfSome o (λ u. NoNext u (h.waiting ++ q.added) q.ended) → IfSome o (λ u. IsNoBody f given u (seen ++ q.added) (q.ended || was))
    by_cause f given seen was st None n = tt
    by_cause f given seen was st (Some u) n =
        no_chunked f given (seen ++ q.added) given (h.waiting ++ q.added) st.1.0 u (q.ended || was) st.0
        (chunks-append st.1.0 seen q.added given h.waiting st.1.1) (omega arith)
        (λ limit fits. subst (λ (t : Bool). NoNextChunk limit (length given) u (h.waiting ++ q.added) t) (sym (or_was q.ended was st.2)) (n limit (length given)))

-- ---- behind a chunk

-- what stands behind the line of a chunk that was given whole
pub whole_content : (here part waiting added : List ℕ) (n size : ℕ) → StartsWithChunkLine here n size → drop n here ≡ part ++ waiting
    → drop n (here ++ added) ≡ part ++ (waiting ++ added)
whole_content here part waiting added n size line content =
    drop-append-le n here added line.block.within ∙ ap (λ (w : List ℕ). w ++ added) content ∙ append_assoc part waiting added

drop_over : (part rest : List ℕ) (size more : ℕ) → length part ≡ size → drop (size + more) (part ++ rest) ≡ drop more rest
drop_over [] rest zero more e = ap (λ (k : ℕ). drop k rest) (same more)
  where
    same : (m : ℕ) → 0 + m ≡ m
    same m = omega arith
drop_over [] rest (suc size) more e = absurd (omega (arith, e))
drop_over (b ∷ part) rest zero more e = absurd (omega (arith, e))
drop_over (b ∷ part) rest (suc size) more e =
    ap (λ (k : ℕ). drop k (b ∷ (part ++ rest))) (next size more) ∙ drop_over part rest size more (omega (arith, e))
  where
    next : (m k : ℕ) → suc m + k ≡ suc (m + k)
    next m k = omega arith

drop_whole : (part rest : List ℕ) (size : ℕ) → length part ≡ size → drop size (part ++ rest) ≡ rest
drop_whole part rest size e = ap (λ (k : ℕ). drop k (part ++ rest)) (none size) ∙ drop_over part rest size 0 e
  where
    none : (m : ℕ) → m ≡ m + 0
    none m = omega arith

take_whole : (part rest : List ℕ) (size : ℕ) → length part ≡ size → part ≡ take size (part ++ rest)
take_whole part rest size e = sym (ap (λ (k : ℕ). take k (part ++ rest)) (sym e) ∙ take-append-le (length part) part rest (omega arith) ∙ take_all (length part) part (omega arith))

closed_chunk : (waiting added after seen given : List ℕ) (c : InChunk 0 given seen waiting) → ClosingFound after (waiting ++ added) false
    → Chunks (suc c.count) (seen ++ added) given after
closed_chunk waiting added after seen given c found =
    let size : length c.part ≡ c.size = omega (arith, c.left_is) in
    let content = whole_content c.here c.part waiting added c.n c.size c.line c.content in
    let two = drop_whole c.part (waiting ++ added) c.size size in (
      c.had,
      c.here ++ added,
      c.part,
      chunks-append c.count seen added c.had c.here c.chunks,
      record {
        n = c.n;
        size = c.size;
        line = line-append c.here added c.n c.size c.line;
        not_last = c.some;
        content = record {
          whole = omega (arith, size, found.whole, ap (λ (w : List ℕ). length w) content, length-append {A = ℕ} c.part (waiting ++ added));
          body_is = take_whole c.part (waiting ++ added) c.size size ∙ sym (ap (λ (w : List ℕ). take c.size w) content);
          closed = ap (λ (w : List ℕ). take 2 (drop c.size w)) content ∙ ap (λ (w : List ℕ). take 2 w) two ∙ found.closed;
        };
        rest_is = found.after_is ∙ sym (ap (λ (w : List ℕ). drop (c.size + 2) w) content ∙ drop_over c.part (waiting ++ added) c.size 2 size);
      },
      c.given_is,
    )

-- the closing of a chunk, and the line of the next one
pub closing_then : {a b c : Conversations} {h k m : Held} (x : Unit {0}) (r : Result State AnswerFault)
    → Receives a b h k (λ (u : Unit {0}). ClosingFound k.waiting) NoClosing (Ok x)
    → Receives b c k m (NextFound m.waiting) NoNext r → Settles a c h m (Chunk 0) r
closing_then {a} {b} {c} {h} {k} {m} x r p q =
    let s = line_settled r q in
    record {
      added = p.added ++ s.added;
      ended = s.ended;
      told = receives_more p.added s.added s.ended a b c (subst (λ (t : Bool). GoesOn (with_received p.added t) a b) p.gives.more p.told) s.told;
      noted = noted_more p.added s.added p.noted s.noted;
      more = s.more;
      ready = s.ready;
      settled = λ f given seen was st. subst (λ (w : List ℕ). SettledOr f given w (s.ended || was) m.waiting r) (append_assoc seen p.added s.added)
          (s.settled f given (seen ++ p.added) was (
            st.0,
            (suc st.1.count, closed_chunk h.waiting p.added k.waiting seen given st.1 (subst (λ (t : Bool). ClosingFound k.waiting (h.waiting ++ p.added) t) p.gives.more p.gives)),
            st.2,
          ));
    }

not_closed : (f : Framing) (given seen waiting added : List ℕ) (o : Outcome) (ended was : Bool) → Stands (Chunk 0) f given seen was waiting
    → NoClosing o (waiting ++ added) ended → IsNoBody f given o (seen ++ added) (ended || was)
not_closed f given seen waiting added o ended was st none =
    no_chunked f given (seen ++ added) c.had (c.here ++ added) c.count o (ended || was) st.0 (chunks-append c.count seen added c.had c.here c.chunks)
    (omega (arith, whole))
    (λ limit fits. inr (
      c.n,
      c.size,
      line-append c.here added c.n c.size c.line,
      no_data c.some (omega (arith, whole, fits)) (subst (λ (t : Bool). NoData c.size o (drop c.n (c.here ++ added)) t) (sym (or_was ended was st.2))
          (subst (λ (w : List ℕ). NoData c.size o w ended) (sym content) (by_why none))),
    ))
  where
    c : InChunk 0 given seen waiting
    c = st.1

    size : length c.part ≡ c.size
    size = omega (arith, c.left_is)

    whole : length given ≡ length c.had + c.size
    whole = ap (λ (w : List ℕ). length w) c.given_is ∙ omega (arith, size, length-append {A = ℕ} c.had c.part)

    content : drop c.n (c.here ++ added) ≡ c.part ++ (waiting ++ added)
    content = whole_content c.here c.part waiting added c.n c.size c.line c.content

    by_why : NoClosing o (waiting ++ added) ended → NoData c.size o (c.part ++ (waiting ++ added)) ended
    by_why (inl few) = inl (too_few 2 (c.size + 2) o (waiting ++ added) (c.part ++ (waiting ++ added)) ended
        (λ less. omega (arith, less, size, length-append {A = ℕ} c.part (waiting ++ added))) few)
    by_why (inr other) = inr (
      omega (arith, size, other.0, length-append {A = ℕ} c.part (waiting ++ added)),
      λ closed. other.1 (sym (ap (λ (w : List ℕ). take 2 w) (drop_whole c.part (waiting ++ added) c.size size)) ∙ closed),
      other.2,
    )

pub closing_stops : {a b : Conversations} {h k : Held} (e : AnswerFault)
    → Receives a b h k (λ (u : Unit {0}). ClosingFound k.waiting) NoClosing (Err e) → Settles a b h k (Chunk 0) (Err e)
closing_stops {a} {b} {h} {k} e q = record {
  added = q.added;
  ended = q.ended;
  told = q.told;
  noted = q.noted;
  more = tt;
  ready = tt;
  settled = λ f given seen was st. by_cause f given seen was st (outcome_of e) q.gives;
}
  where
    by_cause : (f : Framing) (given seen : List ℕ) (was : Bool) → Stands (Chunk 0) f given seen was h.waiting
        → (o : Option Outcome) → IfSome o (λ u. NoClosing u (h.waiting ++ q.added) q.ended) → IfSome o (λ u. IsNoBody f given u (seen ++ q.added) (q.ended || was))
    by_cause f given seen was st None n = tt
    by_cause f given seen was st (Some u) n = not_closed f given seen h.waiting q.added u q.ended was st n

-- ---- where nothing is received

pub stands_same : (s : State) (f : Framing) (given seen waiting : List ℕ) (was : Bool) → Stands s f given seen was waiting
    → Stands s f given (seen ++ []) was waiting
stands_same s f given seen waiting was st = subst (λ (w : List ℕ). Stands s f given w was waiting) (sym (append_none seen)) st

pub settled_already : (told : Conversations) (h : Held) (s : State) → is_settled s ≡ true → Settles told told h h s (Ok s)
settled_already told h s is = record {
  added = [];
  ended = false;
  told = receives_none told;
  noted = noted_none h.first;
  more = refl;
  ready = is;
  settled = λ f given seen was st. stands_same s f given seen h.waiting was st;
}

sized_whole : (f : Framing) (given seen waiting : List ℕ) (was : Bool) → Stands (Left 0) f given seen was waiting → IsBody f given seen was
sized_whole f given seen waiting was st =
    let all : length seen ≡ length given + length waiting = ap (λ (w : List ℕ). length w) st.1 ∙ length-append {A = ℕ} given waiting in
    record {
      whole = λ limit fits. subst (λ (g : Framing). FramedBody g limit given seen was) (sym st.0) (record {
        within = omega (arith, fits);
        whole = omega (arith, all);
        body_is = take_whole given waiting (length given + 0) (omega arith) ∙ sym (ap (λ (w : List ℕ). take (length given + 0) w) st.1);
      });
    }

pub sized_over : (told : Conversations) (h : Held) → Settles told told h h (Left 0) (Ok Over)
sized_over told h = record {
  added = [];
  ended = false;
  told = receives_none told;
  noted = noted_none h.first;
  more = refl;
  ready = refl;
  settled = λ f given seen was st. (stands_same Over f given seen h.waiting was (sized_whole f given seen h.waiting was st));
}

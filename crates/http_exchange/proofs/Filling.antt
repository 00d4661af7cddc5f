-- A buffer that is filled over several pieces.
use Rattle.std.proofs.Common.{◌≡◌, ℕ, zero, suc, ◌+◌, ◌<◌, ◌≤◌, ◌⊎◌, inl, inr, Bool, true, false, ◌||◌, List, [], ◌∷◌, ◌++◌, length, length-append, take, drop, arith, ap, sym, subst, ◌∙◌, append_assoc, Ok, Err, Option, Some, None, IfSome, MatchOption}
use Rattle.skopeo_outside.specs.Wire.{Conversations, GoesOn, with_received}
use Rattle.skopeo_outside.proofs.WireLemmas.{receives_none, receives_more, append_none}
use Rattle.http_message.specs.declared.fault.AnswerFault.{AnswerFault}
use Rattle.http_message.specs.declared.framing.Framing.{Framing}
use Rattle.http_message.specs.declared.framing.Framing.TheVariants.{Sized, Chunked, ToEnd, Wrong}
use Rattle.http_message.specs.Outcome.{body_too_long, unfinished, outcome_of}
use Rattle.http_message.specs.ChunkedBody.{NoContent, no_trailer, no_data, overflows, NoNextChunk, NoChunkedBody}
use Rattle.http_message.specs.Spelling.{NoFramedBody}
use Rattle.http_message.proofs.UniqueBlocks.{le_or_lt}
use Rattle.http_message.proofs.StableBodies.{no_chunked-append}
use Rattle.http_exchange.specs.Streaming.{IsBody, IsNoBody, IsFront, IsPassed, IsPiece}
use Rattle.http_exchange.specs.Reader.{Reader, Stands, Streams, Gave, NextPiece, is_over}
use Rattle.http_exchange.specs.Filling.{Gathered, Gathering, Fills}
use Rattle.http_exchange.proofs.Rounds.{take_nothing, noted_none, noted_more}
use Rattle.http_exchange.proofs.Giving.{some_piece, none_passed}
use Rattle.http_exchange.proofs.LagLaws.{stands_front, stands_of, front_more}
use Rattle.http_exchange.proofs.CallLemmas.{no_fault_failed, streams_alive}

take_split : (k n : ℕ) (xs : List ℕ) → take (k + n) xs ≡ take k xs ++ take n (drop k xs)
take_split zero n xs = let e : 0 + n ≡ n = omega arith in ap (λ (m : ℕ). take m xs) e
take_split (suc k) n [] = sym (take_nothing (suc k + n)) ∙ take_nothing n
take_split (suc k) n (x ∷ xs) =
    let e : suc k + n ≡ suc (k + n) = omega arith in
    ap (λ (m : ℕ). take m (x ∷ xs)) e ∙ ap (λ (w : List ℕ). x ∷ w) (take_split k n xs)

-- ---- a body that is too long, which the end does not touch

too_long_content : (limit had size n : ℕ) (a : List ℕ) (was : Bool) → NoContent limit had size (body_too_long n) a was → NoContent limit had size (body_too_long n) a false
too_long_content limit had size n a was (no_trailer last (inl none)) = absurd none
too_long_content limit had size n a was (no_trailer last (inr wrong)) = no_trailer last (inr wrong)
too_long_content limit had size n a was (no_data some fits (inl few)) = absurd few
too_long_content limit had size n a was (no_data some fits (inr other)) = no_data some fits (inr other)
too_long_content limit had size n a was (overflows some long (inl few)) = absurd few
too_long_content limit had size n a was (overflows some long (inr more)) = overflows some long (inr more)

too_long_next : (limit had n : ℕ) (a : List ℕ) (was : Bool) → NoNextChunk limit had (body_too_long n) a was → NoNextChunk limit had (body_too_long n) a false
too_long_next limit had n a was (inl (inl none)) = absurd none
too_long_next limit had n a was (inl (inr wrong)) = inl (inr wrong)
too_long_next limit had n a was (inr (m, size, line, none)) = inr (m, size, line, too_long_content limit had size n (drop m a) was none)

too_long_chunked : (limit n : ℕ) (a : List ℕ) (was : Bool) → NoChunkedBody limit (body_too_long n) a was → NoChunkedBody limit (body_too_long n) a false
too_long_chunked limit n a was is = record {
  count = is.count;
  had = is.had;
  here = is.here;
  chunks = is.chunks;
  within = is.within;
  why = too_long_next limit (length is.had) n is.here was is.why;
}

long_known : (n : ℕ) → body_too_long n ≡ unfinished → ⊥
long_known n e = cc

too_long_more : (f : Framing) (limit n : ℕ) (a b : List ℕ) (was ended : Bool) → NoFramedBody f limit (body_too_long n) a was → NoFramedBody f limit (body_too_long n) (a ++ b) ended
too_long_more Wrong limit n a b was ended is = is
too_long_more (Sized size) limit n a b was ended is = (is.0, is.1, omega (arith, is.2, length-append {A = ℕ} a b))
too_long_more ToEnd limit n a b was ended is = (is.0, omega (arith, is.1, length-append {A = ℕ} a b))
too_long_more Chunked limit n a b was ended is = no_chunked-append limit (body_too_long n) a b ended (long_known n) (too_long_chunked limit n a was is)

passed_later : (f : Framing) (given p seen added : List ℕ) (was ended : Bool) → IsPassed f given p seen was → IsPassed f given p (seen ++ added) ended
passed_later f given p seen added was ended a = record { passed = λ limit fits over. too_long_more f limit (limit + 1) seen added was ended (a.passed limit fits over) }

passed_more : (f : Framing) (given p q seen added : List ℕ) (was ended : Bool) → IsPassed f given p seen was → IsPassed f (given ++ p) q (seen ++ added) ended
    → IsPassed f given (p ++ q) (seen ++ added) ended
passed_more f given p q seen added was ended a b = record { passed = λ limit fits over. by_order limit fits over (le_or_lt (length (given ++ p)) limit) }
  where
    by_order : (limit : ℕ) → length given ≤ limit → limit < length (given ++ (p ++ q)) → (length (given ++ p) ≤ limit) ⊎ (limit < length (given ++ p))
        → NoFramedBody f limit (body_too_long (limit + 1)) (seen ++ added) ended
    by_order limit fits over (inl le) = b.passed limit le (subst (λ (w : List ℕ). limit < length w) (sym (append_assoc given p q)) over)
    by_order limit fits over (inr lt) = too_long_more f limit (limit + 1) seen added was ended (a.passed limit fits lt)

-- ---- so far

streams_failed : (r : Reader) (f : Framing) (given seen : List ℕ) (was : Bool) (fault : AnswerFault) → r.failed ≡ Some fault
    → IfSome (outcome_of fault) (λ o. IsNoBody f given o seen was) → Streams r f given seen was
streams_failed r f given seen was fault is n =
    subst (λ (x : Option AnswerFault). MatchOption x (Stands r.state f given seen was r.held.waiting) (λ e. IfSome (outcome_of e) (λ o. IsNoBody f given o seen was))) (sym is) n

pub gathering_none : (told : Conversations) (r : Reader) (into : List ℕ) → r.failed ≡ None → Gathering told told r r (take 0 into)
gathering_none told r into is = record {
  added = [];
  told = receives_none told;
  noted = noted_none r.held.first;
  alive = is;
  gathered = λ f given seen was st. record {
    front = subst (λ (w : List ℕ). IsFront f w (seen ++ [])) (sym (append_none given))
        (front_more f given seen [] (stands_front r.state f given seen r.held.waiting was (stands_of r f given seen was is st)));
    passed = none_passed f given (seen ++ []) was;
    streams = subst (λ (w : List ℕ). Streams r f w (seen ++ []) was) (sym (append_none given)) (subst (λ (w : List ℕ). Streams r f given w was) (sym (append_none seen)) st);
  };
}

gathered_more : (f : Framing) (given a b seen added : List ℕ) (was ended : Bool) (r q : Reader) → q.failed ≡ None → (ended || was) ≡ was → Gathered f given a seen was r
    → Gave f (given ++ a) b (seen ++ added) (ended || was) q.state q.held.waiting → Gathered f given (a ++ b) (seen ++ added) was q
gathered_more f given a b seen added was ended r q alive still g s =
    let t = subst (λ (e : Bool). Gave f (given ++ a) b (seen ++ added) e q.state q.held.waiting) still s in record {
      front = subst (λ (w : List ℕ). IsFront f w (seen ++ added)) (append_assoc given a b) t.front;
      passed = passed_more f given a b seen added was was g.passed t.passed;
      streams = streams_alive q f (given ++ (a ++ b)) (seen ++ added) was alive
          (subst (λ (w : List ℕ). Stands q.state f w (seen ++ added) was q.held.waiting) (append_assoc given a b) t.stands);
    }

pub gathering_more : {old mid new : Conversations} {before r q : Reader} (k n : ℕ) (into later : List ℕ) → Gathering old mid before r (take k into)
    → NextPiece mid new r q (drop k later) (Ok n) → take k later ≡ take k into → 0 < n → Gathering old new before q (take (k + n) later)
gathering_more {old} {mid} {new} {before} {r} {q} k n into later p x same some =
    let piece : take (k + n) later ≡ take k into ++ take n (drop k later) = take_split k n later ∙ ap (λ (w : List ℕ). w ++ take n (drop k later)) same in
    subst (λ (w : List ℕ). Gathering old new before q w) (sym piece) (record {
      added = p.added ++ x.added;
      told = receives_more p.added x.added false old mid new p.told (subst (λ (t : Bool). GoesOn (with_received x.added t) mid new) (x.more some) x.told);
      noted = noted_more p.added x.added p.noted x.noted;
      alive = x.alive;
      gathered = λ f given seen was st.
          let g = p.gathered f given seen was st in
          subst (λ (w : List ℕ). Gathered f given (take k into ++ take n (drop k later)) w was q) (append_assoc seen p.added x.added)
          (gathered_more f given (take k into) (take n (drop k later)) (seen ++ p.added) x.added was x.ended r q x.alive (ap (λ (t : Bool). t || was) (x.more some)) g
          (x.next f (given ++ take k into) (seen ++ p.added) was g.streams));
    })

-- ---- the ends

pub filled_full : {old new : Conversations} {before r : Reader} (k : ℕ) (into : List ℕ) → Gathering old new before r (take k into) → 0 < k → k ≤ length into
    → length into ≤ k → Fills old new before r into (Ok k)
filled_full {old} {new} {before} {r} k into p some le all = record {
  added = p.added;
  ended = false;
  told = p.told;
  noted = p.noted;
  room = le;
  full = λ less. absurd (omega (arith, less, all));
  filled = λ f given seen was st.
      let g = p.gathered f given seen was st in
      (record { front = g.front; passed = g.passed; whole = λ none. absurd (some_piece k into some le none) }, g.streams);
  stays = tt;
}

-- the whole body was given, of which the last call gave nothing
whole_piece : (f : Framing) (given a b seen added : List ℕ) (was ended : Bool) (r q : Reader) → q.failed ≡ None → b ≡ [] → Gathered f given a seen was r
    → Gave f (given ++ a) b (seen ++ added) ended q.state q.held.waiting → IsPiece f given a (seen ++ added) ended × Streams q f (given ++ a) (seen ++ added) ended
whole_piece f given a b seen added was ended r q alive none g s =
    let body = s.whole none in
    let same : (given ++ a) ++ b ≡ given ++ a = ap (λ (w : List ℕ). (given ++ a) ++ w) none ∙ append_none (given ++ a) in (
      record {
        front = front_more f (given ++ a) seen added g.front;
        passed = passed_later f given a seen added was ended g.passed;
        whole = λ empty. subst (λ (w : List ℕ). IsBody f w (seen ++ added) ended) (ap (λ (w : List ℕ). given ++ w) empty ∙ append_none given) body;
      },
      streams_alive q f (given ++ a) (seen ++ added) ended alive (subst (λ (w : List ℕ). Stands q.state f w (seen ++ added) ended q.held.waiting) same s.stands),
    )

pub filled_whole : {old mid new : Conversations} {before r q : Reader} (k n : ℕ) (into later : List ℕ) → Gathering old mid before r (take k into)
    → NextPiece mid new r q (drop k later) (Ok n) → n ≡ 0 → take k later ≡ take k into → k ≤ length later → is_over q.state ≡ true → Fills old new before q later (Ok k)
filled_whole {old} {mid} {new} {before} {r} {q} k n into later p x none same le over = record {
  added = p.added ++ x.added;
  ended = x.ended;
  told = receives_more p.added x.added x.ended old mid new p.told x.told;
  noted = noted_more p.added x.added p.noted x.noted;
  room = le;
  full = λ less. inl over;
  filled = λ f given seen was st.
      let g = p.gathered f given seen was st in
      let whole = whole_piece f given (take k into) (take n (drop k later)) (seen ++ p.added) x.added was (x.ended || was) r q x.alive (ap (λ (m : ℕ). take m (drop k later)) none) g
      (x.next f (given ++ take k into) (seen ++ p.added) was g.streams) in
      subst (λ (w : List ℕ). IsPiece f given w (seen ++ (p.added ++ x.added)) (x.ended || was) × Streams q f (given ++ w) (seen ++ (p.added ++ x.added)) (x.ended || was)) (sym same)
      (subst (λ (w : List ℕ). IsPiece f given (take k into) w (x.ended || was) × Streams q f (given ++ take k into) w (x.ended || was)) (append_assoc seen p.added x.added) whole);
  stays = tt;
}

pub filled_part : {old mid new : Conversations} {before r q : Reader} (k : ℕ) (into later : List ℕ) (fault : AnswerFault) → Gathering old mid before r (take k into)
    → NextPiece mid new r q (drop k later) (Err fault) → take k later ≡ take k into → 0 < k → k ≤ length later → Fills old new before q later (Ok k)
filled_part {old} {mid} {new} {before} {r} {q} k into later fault p x same some le = record {
  added = p.added ++ x.added;
  ended = x.ended;
  told = receives_more p.added x.added x.ended old mid new p.told x.told;
  noted = noted_more p.added x.added p.noted x.noted;
  room = le;
  full = λ less. inr (λ e. no_fault_failed fault (sym x.stays ∙ e));
  filled = λ f given seen was st.
      let g = p.gathered f given seen was st in
      let all = (seen ++ p.added) ++ x.added in
      let front : IsFront f (given ++ take k into) all = front_more f (given ++ take k into) (seen ++ p.added) x.added g.front in
      let passed : IsPassed f given (take k into) all (x.ended || was) = passed_later f given (take k into) (seen ++ p.added) x.added was (x.ended || was) g.passed in
      let stopped : Streams q f (given ++ take k into) all (x.ended || was)
      = streams_failed q f (given ++ take k into) all (x.ended || was) fault x.stays (x.next f (given ++ take k into) (seen ++ p.added) was g.streams) in
      let piece : IsPiece f given (take k into) all (x.ended || was)
      = record { front = front; passed = passed; whole = λ none. absurd (some_piece k later some le (same ∙ none)) } in
      subst (λ (w : List ℕ). IsPiece f given w (seen ++ (p.added ++ x.added)) (x.ended || was) × Streams q f (given ++ w) (seen ++ (p.added ++ x.added)) (x.ended || was)) (sym same)
      (subst (λ (w : List ℕ). IsPiece f given (take k into) w (x.ended || was) × Streams q f (given ++ take k into) w (x.ended || was)) (append_assoc seen p.added x.added) (piece, stopped));
  stays = tt;
}

pub filled_none : {old mid new : Conversations} {before r q : Reader} (k : ℕ) (into later : List ℕ) (fault : AnswerFault) → Gathering old mid before r (take k into)
    → NextPiece mid new r q (drop k later) (Err fault) → k ≡ 0 → Fills old new before q later (Err fault)
filled_none {old} {mid} {new} {before} {r} {q} k into later fault p x none = record {
  added = p.added ++ x.added;
  ended = x.ended;
  told = receives_more p.added x.added x.ended old mid new p.told x.told;
  noted = noted_more p.added x.added p.noted x.noted;
  room = tt;
  full = tt;
  filled = λ f given seen was st.
      let g = p.gathered f given seen was st in
      let nothing : given ++ take k into ≡ given = ap (λ (m : ℕ). given ++ take m into) none ∙ append_none given in
      subst (λ (w : List ℕ). IfSome (outcome_of fault) (λ o. IsNoBody f given o w (x.ended || was))) (append_assoc seen p.added x.added)
      (subst (λ (w : List ℕ). IfSome (outcome_of fault) (λ o. IsNoBody f w o ((seen ++ p.added) ++ x.added) (x.ended || was))) nothing
      (x.next f (given ++ take k into) (seen ++ p.added) was g.streams));
  stays = x.stays;
}

pub filled_again : (told : Conversations) (r : Reader) (into : List ℕ) (fault : AnswerFault) → NextPiece told told r r into (Err fault) → Fills told told r r into (Err fault)
filled_again told r into fault p = record {
  added = p.added;
  ended = p.ended;
  told = p.told;
  noted = p.noted;
  room = tt;
  full = tt;
  filled = λ f given seen was st. p.next f given seen was st;
  stays = p.stays;
}

-- A body that is collected, from one piece to the next.
use Rattle.std.proofs.Common.{◌≡◌, ℕ, ◌+◌, ◌<◌, ◌≤◌, Bool, true, false, ◌||◌, List, [], ◌++◌, length, take, refl, arith, ap, sym, subst, ◌∙◌, append_assoc, Result, Ok, Err, Option, Some, None, IfSome, MatchOption}
use Rattle.skopeo_outside.specs.Wire.{Conversations, GoesOn, with_received}
use Rattle.skopeo_outside.proofs.WireLemmas.{receives_none, receives_more, append_none}
use Rattle.http_message.specs.declared.fault.AnswerFault.{AnswerFault}
use Rattle.http_message.specs.declared.fault.AnswerFault.TheVariants.{BodyTooLong, Memory}
use Rattle.http_message.specs.declared.framing.Framing.{Framing}
use Rattle.http_message.specs.Outcome.{Outcome, outcome_of}
use Rattle.http_message.specs.Spelling.{NoFramedBody}
use Rattle.http_exchange.specs.Streaming.{IsNoBody}
use Rattle.http_exchange.specs.Reader.{Reader, Stands, Streams, NextPiece, NextOr}
use Rattle.http_exchange.specs.Collected.{Collects, CollectedOr, Collecting}
use Rattle.http_exchange.proofs.Rounds.{noted_none, noted_more}

pub or_false : (b : Bool) → (b || false) ≡ b
or_false true = refl
or_false false = refl

pub collecting_none : (told : Conversations) (r : Reader) (limit : ℕ) → r.failed ≡ None → Collecting told told r r limit []
collecting_none told r limit is = record {
  added = [];
  told = receives_none told;
  noted = noted_none r.held.first;
  alive = is;
  within = omega arith;
  streams = λ f seen st. subst (λ (w : List ℕ). Streams r f [] w false) (sym (append_none seen)) st;
}

pub collecting_more : {old mid new : Conversations} {before r q : Reader} (limit n : ℕ) (bytes into : List ℕ) → Collecting old mid before r limit bytes
    → NextPiece mid new r q into (Ok n) → 0 < n → length (bytes ++ take n into) ≤ limit → Collecting old new before q limit (bytes ++ take n into)
collecting_more {old} {mid} {new} {before} {r} {q} limit n bytes into p x some fits = record {
  added = p.added ++ x.added;
  told = receives_more p.added x.added false old mid new p.told (subst (λ (t : Bool). GoesOn (with_received x.added t) mid new) (x.more some) x.told);
  noted = noted_more p.added x.added p.noted x.noted;
  alive = x.alive;
  within = fits;
  streams = λ f seen st.
      let s = x.next f bytes (seen ++ p.added) false (p.streams f seen st) in
      subst (λ (w : Option AnswerFault). MatchOption w (Stands q.state f (bytes ++ take n into) (seen ++ (p.added ++ x.added)) false q.held.waiting)
      (λ e. IfSome (outcome_of e) (λ o. IsNoBody f (bytes ++ take n into) o (seen ++ (p.added ++ x.added)) false))) (sym x.alive)
      (subst (λ (w : List ℕ). Stands q.state f (bytes ++ take n into) w false q.held.waiting) (append_assoc seen p.added x.added)
      (subst (λ (t : Bool). Stands q.state f (bytes ++ take n into) ((seen ++ p.added) ++ x.added) t q.held.waiting) (or_false x.ended ∙ x.more some) s.stands));
}

-- a call of the reader after what was collected
collects_so : {old mid new : Conversations} {before r q : Reader} (limit : ℕ) (bytes into : List ℕ) (piece : Result ℕ AnswerFault) (result : Result (List ℕ) AnswerFault)
    → Collecting old mid before r limit bytes → NextPiece mid new r q into piece
    → ((f : Framing) (seen : List ℕ) (ended : Bool) → NextOr f bytes into seen ended q piece → CollectedOr f limit seen ended result)
    → Collects old new before q limit result
collects_so {old} {mid} {new} {before} {r} {q} limit bytes into piece result p x then = record {
  added = p.added ++ x.added;
  ended = x.ended;
  told = receives_more p.added x.added x.ended old mid new p.told x.told;
  noted = noted_more p.added x.added p.noted x.noted;
  collected = λ f seen st.
      subst (λ (w : List ℕ). CollectedOr f limit w x.ended result) (append_assoc seen p.added x.added)
      (subst (λ (t : Bool). CollectedOr f limit ((seen ++ p.added) ++ x.added) t result) (or_false x.ended)
      (then f ((seen ++ p.added) ++ x.added) (x.ended || false) (x.next f bytes (seen ++ p.added) false (p.streams f seen st))));
}

pub collected_over : {old mid new : Conversations} {before r q : Reader} (limit n : ℕ) (bytes into : List ℕ) → Collecting old mid before r limit bytes
    → NextPiece mid new r q into (Ok n) → limit < length (bytes ++ take n into) → Collects old new before q limit (Err (BodyTooLong (limit + 1)))
collected_over limit n bytes into p x over =
    collects_so limit bytes into (Ok n) (Err (BodyTooLong (limit + 1))) p x (λ f seen ended s. s.passed.passed limit p.within over)

pub collected_whole : {old mid new : Conversations} {before r q : Reader} (limit n : ℕ) (bytes into : List ℕ) → Collecting old mid before r limit bytes
    → NextPiece mid new r q into (Ok n) → n ≡ 0 → Collects old new before q limit (Ok bytes)
collected_whole limit n bytes into p x none =
    collects_so limit bytes into (Ok n) (Ok bytes) p x (λ f seen ended s. (s.whole (ap (λ (k : ℕ). take k into) none)).whole limit p.within)

pub collected_lost : {old mid new : Conversations} {before r q : Reader} (limit n : ℕ) (bytes into : List ℕ) → Collecting old mid before r limit bytes
    → NextPiece mid new r q into (Ok n) → Collects old new before q limit (Err Memory)
collected_lost limit n bytes into p x = collects_so limit bytes into (Ok n) (Err Memory) p x (λ f seen ended s. tt)

pub collected_fault : {old mid new : Conversations} {before r q : Reader} (limit : ℕ) (bytes into : List ℕ) (e : AnswerFault) → Collecting old mid before r limit bytes
    → NextPiece mid new r q into (Err e) → Collects old new before q limit (Err e)
collected_fault limit bytes into e p x = collects_so limit bytes into (Err e) (Err e) p x (λ f seen ended s. by_cause f seen ended (outcome_of e) s)
  where
    by_cause : (f : Framing) (seen : List ℕ) (ended : Bool) (o : Option Outcome) → IfSome o (λ u. IsNoBody f bytes u seen ended)
        → IfSome o (λ u. NoFramedBody f limit u seen ended)
    by_cause f seen ended None n = tt
    by_cause f seen ended (Some u) n = n.none limit p.within

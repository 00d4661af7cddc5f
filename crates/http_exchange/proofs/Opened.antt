-- The final head, and a reader behind it.
use Rattle.std.proofs.Common.{◌≡◌, ℕ, suc, zero, ◌+◌, Bool, true, false, List, [], ◌++◌, map, drop, refl, arith, ap, sym, subst, ◌∙◌, Ok, Err, Option, Some, None, IfSome, if◌then◌else◌}
use Rattle.std.proofs.lemmas.List.{drop-append-le}
use Rattle.skopeo_outside.specs.Wire.{Conversations}
use Rattle.httparse.specs.Grammar.{ResponseHead, status_code}
use Rattle.http_message.specs.declared.fault.AnswerFault.{AnswerFault}
use Rattle.http_message.specs.declared.fault.AnswerFault.TheVariants.{Encoded}
use Rattle.http_message.specs.declared.framing.Framing.{Framing}
use Rattle.http_message.specs.declared.framing.Framing.TheVariants.{Wrong, Sized, Chunked, ToEnd}
use Rattle.http_message.specs.declared.head.Head.{Head}
use Rattle.http_message.specs.Outcome.{Header, Outcome, bad_answer, outcome_of}
use Rattle.http_message.specs.Heads.{InterimHeads, HasFinalHead, HasNoFinalHead, most_interim, headers_of}
use Rattle.http_message.specs.Framing.{is_encoded, framing_of}
use Rattle.http_message.specs.Shown.{Shows, field_bytes}
use Rattle.http_message.specs.Spelling.{has_body, NoFramedBody, no_head, behind_head, coded, broken}
use Rattle.http_exchange.specs.declared.state.State.{State}
use Rattle.http_exchange.specs.Received.{Held, Receives}
use Rattle.http_exchange.specs.Found.{FinalHeadFound}
use Rattle.http_exchange.specs.Reader.{Stands}
use Rattle.http_exchange.specs.Opening.{framed, body_framing, FirstOr, OpeningFound, NoOpening}
use Rattle.http_exchange.proofs.Rounds.{stops_found}
use Rattle.http_exchange.proofs.Ends.{head-append}

interim-append : (count : ℕ) (a b here : List ℕ) → InterimHeads count a here → InterimHeads count (a ++ b) (here ++ b)
interim-append zero a b here e = ap (λ (w : List ℕ). w ++ b) e
interim-append (suc count) a b here is = (
  is.0,
  is.1,
  head-append a b is.0 is.1 is.2,
  is.3,
  subst (λ (w : List ℕ). InterimHeads count w (here ++ b)) (sym (drop-append-le is.0 a b is.2.block.within))
      (interim-append count (drop is.0 a) b here is.4),
)

-- the final head, with more bytes behind it
pub final-append : (skips : ℕ) (a b : List ℕ) (h : ResponseHead) (rest : List ℕ) → HasFinalHead skips a h rest → HasFinalHead skips (a ++ b) h (rest ++ b)
final-append skips a b h rest is = record {
  count = is.count;
  count_fits = is.count_fits;
  here = is.here ++ b;
  passed = interim-append is.count a b is.here is.passed;
  n = is.n;
  head = head-append is.here b is.n h is.head;
  final = is.final;
  rest_is = ap (λ (w : List ℕ). w ++ b) is.rest_is ∙ sym (drop-append-le is.n is.here b is.head.block.within);
}

first_stands : (f : Framing) (state : State) (rest : List ℕ) → FirstOr f (Ok state) → Stands state f [] rest false rest
first_stands Wrong state rest p = absurd (p.1 refl)
first_stands (Sized size) state rest p = subst (λ (s : State). Stands s (Sized size) [] rest false rest) (sym p.0) (ap Sized (same size), refl, refl)
  where
    same : (m : ℕ) → m ≡ 0 + m
    same m = omega arith
first_stands Chunked state rest p = subst (λ (s : State). Stands s Chunked [] rest false rest) (sym p.0) (refl, (0, (refl, refl)), refl)
first_stands ToEnd state rest p = subst (λ (s : State). Stands s ToEnd [] rest false rest) (sym p.0) (refl, refl, refl)

-- what a reader holds of a head is the head's
shown_framing : (get : Bool) (head : Head) (h : ResponseHead) → Shows head h → framed get head.status (map field_bytes head.fields.items) ≡ body_framing get h
shown_framing get head h s = ap (λ (n : ℕ). framed get n (map field_bytes head.fields.items)) s.status ∙ ap (λ (hs : List Header). framed get (status_code h) hs) s.fields

pub opening_found : {a b : Conversations} {h k : Held} (get : Bool) (head : Head) (state : State)
    → Receives a b h k (FinalHeadFound most_interim k.waiting) (HasNoFinalHead most_interim) (Ok head)
    → is_encoded (map field_bytes head.fields.items) ≡ false → FirstOr (framed get head.status (map field_bytes head.fields.items)) (Ok state)
    → Receives a b h k (OpeningFound get k.waiting) (NoOpening get) (Ok (record { head = head; state = state }))
opening_found {a} {b} {h} {k} get head state q plain is =
    let shows = q.gives.2 in
    record {
      added = q.added;
      ended = q.ended;
      told = q.told;
      noted = q.noted;
      gives = (
        q.gives.0,
        q.gives.1,
        shows,
        subst (λ (hs : List Header). is_encoded hs ≡ false) shows.fields plain,
        first_stands (body_framing get q.gives.0) state k.waiting (subst (λ (f : Framing). FirstOr f (Ok state)) (shown_framing get head q.gives.0 shows) is),
        q.gives.3,
      );
    }

pub encoded_found : {a b : Conversations} {h k : Held} (get : Bool) (head : Head)
    → Receives a b h k (FinalHeadFound most_interim k.waiting) (HasNoFinalHead most_interim) (Ok head)
    → is_encoded (map field_bytes head.fields.items) ≡ true
    → Receives a b h k (OpeningFound get k.waiting) (NoOpening get) (Err Encoded)
encoded_found {a} {b} {h} {k} get head q is =
    stops_found (FinalHeadFound most_interim k.waiting) (HasNoFinalHead most_interim) (OpeningFound get k.waiting) (NoOpening get) head Encoded q
    (λ all ended f limit. behind_head f.0 k.waiting f.1 (coded (subst (λ (hs : List Header). is_encoded hs ≡ true) f.2.fields is) refl))

has_wrong : (b : Bool) (f : Framing) → (if b then f else Sized 0) ≡ Wrong → (b ≡ true) × (f ≡ Wrong)
has_wrong true f e = (refl, e)
has_wrong false f e = absurd (cc)

pub wrong_found : {a b : Conversations} {h k : Held} (get : Bool) (head : Head) (e : AnswerFault)
    → Receives a b h k (FinalHeadFound most_interim k.waiting) (HasNoFinalHead most_interim) (Ok head)
    → is_encoded (map field_bytes head.fields.items) ≡ false → FirstOr (framed get head.status (map field_bytes head.fields.items)) (Err e)
    → Receives a b h k (OpeningFound get k.waiting) (NoOpening get) (Err e)
wrong_found {a} {b} {h} {k} get head e q plain is =
    stops_found (FinalHeadFound most_interim k.waiting) (HasNoFinalHead most_interim) (OpeningFound get k.waiting) (NoOpening get) head e q
    (λ all ended f. by_cause all ended f (outcome_of e) is)
  where
    by_cause : (all : List ℕ) (ended : Bool) → FinalHeadFound most_interim k.waiting head all ended → (o : Option Outcome)
        → IfSome o (λ u. (u ≡ bad_answer) × (framed get head.status (map field_bytes head.fields.items) ≡ Wrong)) → IfSome o (λ u. NoOpening get u all ended)
    by_cause all ended f None n = tt
    by_cause all ended f (Some u) n =
        let w = has_wrong (has_body get (status_code f.0)) (framing_of (headers_of f.0)) (sym (shown_framing get head f.0 f.2) ∙ n.1) in
        λ limit. behind_head f.0 k.waiting f.1 (broken (subst (λ (hs : List Header). is_encoded hs ≡ false) f.2.fields plain) w.0
        (subst (λ (g : Framing). NoFramedBody g limit u k.waiting ended) (sym w.1) n.0))

pub no_head_found : (get : Bool) (o : Outcome) (all : List ℕ) (ended : Bool) → HasNoFinalHead most_interim o all ended → NoOpening get o all ended
no_head_found get o all ended none limit = no_head none

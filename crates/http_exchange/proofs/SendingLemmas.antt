-- Why a request was not sent whole.
use Rattle.std.proofs.Common.{◌≡◌, ℕ, inl, inr, List, [], ◌∷◌, refl, subst, Result, OnOk, IfErr}
use Rattle.skopeo_outside.specs.declared.stop.Stop.{Stop}
use Rattle.skopeo_outside.specs.declared.stop.Stop.TheVariants.{Fault, Memory}
use Rattle.skopeo_outside.specs.Wire.{Conversation, Conversations, Gains, GainsOrNot, GoesOn, SendsPart, begun, with_sent}
use Rattle.skopeo_outside.proofs.WireLemmas.{gains_on, gains_none}
use Rattle.http_exchange.specs.Sending.{sending, nothing, front, FailsSending}

some_gained : (c : Conversation) → (◌≡◌ {A = List Conversation} (c ∷ []) []) → ⊥
some_gained c e = cc

pub connect_fails : (stop : Stop) (host : List ℕ) (port : ℕ) (text : List ℕ) (old new : Conversations)
    → (stop ≡ Fault → Gains (begun host port ∷ []) old new) → (stop ≡ Memory → GainsOrNot (begun host port ∷ []) old new)
    → FailsSending host port text stop old new
connect_fails Fault host port text old new failed wanted = record {
  gained = begun host port ∷ [];
  told = failed refl;
  sends = front [] text refl refl;
  some = λ is. some_gained (begun host port);
}
connect_fails Memory host port text old new failed wanted = by_gain (wanted refl)
  where
    by_gain : GainsOrNot (begun host port ∷ []) old new → FailsSending host port text Memory old new
    by_gain (inl g) = record { gained = begun host port ∷ []; told = g; sends = front [] text refl refl; some = λ is. some_gained (begun host port) }
    by_gain (inr same) = record { gained = []; told = gains_none old new same; sends = nothing refl; some = λ is. absurd (cc) }

pub send_fails : (stop : Stop) (host : List ℕ) (port : ℕ) (text : List ℕ) (old mid new : Conversations)
    → Gains (begun host port ∷ []) old mid → SendsPart text mid new → FailsSending host port text stop old new
send_fails stop host port text old mid new g sent = record {
  gained = sending host port sent.sent ∷ [];
  told = gains_on (begun host port) (with_sent sent.sent) old mid new g sent.goes_on;
  sends = front sent.sent sent.rest sent.front refl;
  some = λ is. some_gained (sending host port sent.sent);
}

pub sent_whole : (host : List ℕ) (port : ℕ) (text : List ℕ) (old mid new : Conversations)
    → Gains (begun host port ∷ []) old mid → GoesOn (with_sent text) mid new → Gains (sending host port text ∷ []) old new
sent_whole host port text old mid new g s = gains_on (begun host port) (with_sent text) old mid new g s

pub nothing_sent : (host : List ℕ) (port : ℕ) (text : List ℕ) (told : Conversations) → FailsSending host port text Memory told told
nothing_sent host port text told = record { gained = []; told = gains_none told told refl; sends = nothing refl; some = λ is. absurd (cc) }

-- the same host and text, in other words
pub begun_so : (r : Result (Unit {0}) Stop) (h host : List ℕ) (port : ℕ) (t text : List ℕ) (old new : Conversations) → h ≡ host → t ≡ text
    → OnOk r (Gains (sending h port t ∷ []) old new) → OnOk r (Gains (sending host port text ∷ []) old new)
begun_so r h host port t text old new e f g =
    subst (λ (w : List ℕ). OnOk r (Gains (sending w port text ∷ []) old new)) e
    (subst (λ (w : List ℕ). OnOk r (Gains (sending h port w ∷ []) old new)) f g)

pub failed_so : (r : Result (Unit {0}) Stop) (h host : List ℕ) (port : ℕ) (t text : List ℕ) (old new : Conversations) → h ≡ host → t ≡ text
    → IfErr r (λ stop. FailsSending h port t stop old new) → IfErr r (λ stop. FailsSending host port text stop old new)
failed_so r h host port t text old new e f g =
    subst (λ (w : List ℕ). IfErr r (λ stop. FailsSending w port text stop old new)) e
    (subst (λ (w : List ℕ). IfErr r (λ stop. FailsSending h port w stop old new)) f g)

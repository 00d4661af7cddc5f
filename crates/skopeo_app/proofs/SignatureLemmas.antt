-- The lines of signatures that were not accepted, one after the other.
use Rattle.std.proofs.Common.{◌≡◌, ◌∙◌, ◌+◌, ◌<◌, ◌≤◌, ◌++◌, [], List, ℕ, length, drop, get_or, sym, ap, refl, add-one, append_assoc, append-nil}
use Rattle.std.proofs.lemmas.List.{at_drop_more, at_drop_all}
use Rattle.policy_gate.specs.declared.fault.Reason.{Reason}
use Rattle.skopeo_app.specs.Lines.{signature_line, signature_lines}

-- the lines of the reasons before a place
pub record AreListed (text : List ℕ) (place : ℕ) (reasons : List Reason) : Type 0 where
  pub is : text ++ signature_lines (place + 1) (drop place reasons) ≡ signature_lines 1 reasons

pub none_listed : (reasons : List Reason) (text : List ℕ) → text ≡ [] → AreListed text 0 reasons
none_listed reasons text empty = record { is = ap (λ t. t ++ signature_lines 1 reasons) empty }

rest_is : (reasons : List Reason) (place : ℕ) (a : Reason) → place < length reasons → a ≡ get_or reasons place a
    → signature_lines (place + 1) (drop place reasons) ≡ signature_line (place + 1) a ++ signature_lines (place + 1 + 1) (drop (place + 1) reasons)
rest_is reasons place a lt is = at_drop_more (λ rest. signature_lines (place + 1) rest) reasons place a lt ∙ rw (← is, add-one) refl

pub one_listed : (reasons : List Reason) (place : ℕ) (a : Reason) (text line more : List ℕ) → AreListed text place reasons → place < length reasons → a ≡ get_or reasons place a → line ≡ signature_line (place + 1) a
    → more ≡ text ++ line → AreListed more (place + 1) reasons
one_listed reasons place a text line more told lt is one pushed = record {
  is = ap (λ t. t ++ signature_lines (place + 1 + 1) (drop (place + 1) reasons)) (pushed ∙ ap (λ l. text ++ l) one)
      ∙ append_assoc text (signature_line (place + 1) a) (signature_lines (place + 1 + 1) (drop (place + 1) reasons))
      ∙ ap (λ t. text ++ t) (sym (rest_is reasons place a lt is)) ∙ told.is;
}

pub all_listed : (reasons : List Reason) (place : ℕ) (text : List ℕ) → AreListed text place reasons → length reasons ≤ place → text ≡ signature_lines 1 reasons
all_listed reasons place text told le = sym (append-nil text) ∙ ap (λ t. text ++ t) (sym (at_drop_all (λ rest. signature_lines (place + 1) rest) reasons place le)) ∙ told.is

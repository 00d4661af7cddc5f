-- Whether a text names what an identity rule takes.
use Rattle.std.proofs.Common.{◌≡◌, ◌↔◌, ℕ, Bool, true, false, IsTrue, ◌≢◌, List, Option, Result, Ok, Err, sym, subst, ◌∙◌, inl, inr}
use Rattle.std.specs.Prelude.{IfOk}
use Rattle.image_ref.specs.Calls.{Answers}
use Rattle.image_ref.specs.Reference.{Reference}
use Rattle.image_ref.specs.Reading.{reading_of}
use Rattle.image_ref.specs.declared.fault.RefFault.{RefFault}
use Rattle.image_ref.specs.declared.fault.RefFault.TheVariants as ref
use Rattle.image_ref.proofs.NamedLaw.{named_read, named_once}
use Rattle.image_ref.proofs.ReadLaw.{read_named}
use Rattle.policy_file.specs.declared.requirement.IdentityRule.{IdentityRule}
use Rattle.identity_match.specs.Match.{IsMatch, IsTextMatch}

pub match_read : (rule : IdentityRule) (named : Option Reference) (text : List ℕ) (signed : Reference) (b : Bool) → Answers ref.Memory (Ok signed) (reading_of text)
    → IsTrue b ↔ IsMatch rule named signed → IsTrue b ↔ IsTextMatch rule named text
match_read rule named text signed b (inl none) test = absurd (cc none)
match_read rule named text signed b (inr read) test =
    let is = read_named text signed (sym read) in (
      λ h. (signed, (is, test.0 h)),
      λ (other, (names, matches)). test.1 (subst (λ r. IsMatch rule named r) (named_once text other signed names is) matches),
    )

pub match_unread : (rule : IdentityRule) (named : Option Reference) (text : List ℕ) (e : RefFault) → (e ≡ ref.Memory → ⊥) → Answers ref.Memory (Err e) (reading_of text)
    → IsTextMatch rule named text → ⊥
match_unread rule named text e some (inl none) (other, (names, matches)) = some (cc none)
match_unread rule named text e some (inr read) (other, (names, matches)) =
    let both : Err e ≡ Ok other = read ∙ named_read text other names in cc both

pub unread_matches : {E : Type 0} (rule : IdentityRule) (named : Option Reference) (text : List ℕ) (fault : RefFault) (result : Result Bool E) → Answers ref.Memory (Err fault) (reading_of text)
    → IfOk result (λ b. (b ≡ false) × (fault ≢ ref.Memory)) → IfOk result (λ b. IsTrue b ↔ IsTextMatch rule named text)
unread_matches rule named text fault (Ok b) exact h = (
  λ t. let both : false ≡ true = sym h.0 ∙ t in cc both,
  λ m. absurd (match_unread rule named text fault h.1 exact m),
)
unread_matches rule named text fault (Err e) exact h = tt

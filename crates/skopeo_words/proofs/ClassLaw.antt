-- The classes of faults 1 to 5: when one has a fault, and when it has none.
use Rattle.std.proofs.Common.{◌≡◌, ℕ, ◌<◌, List, [], ◌∷◌, ◌++◌, ◌⊎◌, length, ◌&&◌, Option, Some, None, true, false, refl, sym, ap, ◌∙◌, arith, inl, inr}
use Rattle.std.specs.Prelude.{is_some}
use Rattle.std.specs.List.{All}
use Rattle.std.proofs.lemmas.Bool.{cases_Bool, both_ways, and_parts, and_from, false_from_ne_true}
use Rattle.std.proofs.lemmas.List.Elements.{All-cons, All-nil, All-head, All-tail}
use Rattle.skopeo_words.specs.CommandOf.{IsGood, IsFor}
use Rattle.skopeo_words.specs.Faults.{or_fault, first_fault, part_fault, bad_part, other_fault, other_option, not_one, not_two, operand_fault, missing_option}
use Rattle.skopeo_words.specs.FirstFault.{IsFirst, IsPartFault, IsOtherFault, wanted, IsCountFault, IsThere, HasEnds}
use Rattle.skopeo_words.specs.Found.{Placed}
use Rattle.skopeo_words.specs.LastOf.{last_of}
use Rattle.skopeo_words.specs.Parts.{Part, plain, given, lacking, mark, unknown}
use Rattle.skopeo_words.specs.Table.{kind_of, is_for}
use Rattle.skopeo_words.specs.Values.{is_value}
use Rattle.skopeo_words.specs.declared.command.CommandName.{CommandName}
use Rattle.skopeo_words.specs.declared.command.CommandName.TheVariants.{Copy, Sync, Inspect, ListTags, Delete, MakeImages}
use Rattle.skopeo_words.specs.declared.fault.WordsFault.{WordsFault}
use Rattle.skopeo_words.specs.declared.fault.WordsFault.TheVariants.{At}
use Rattle.skopeo_words.specs.declared.fault.WordsKind.TheVariants as kind
use Rattle.skopeo_words.specs.declared.table.OptionName.{OptionName}
use Rattle.skopeo_words.specs.declared.table.OptionName.TheVariants.{Src, Dest}
use Rattle.skopeo_words.proofs.FoundLaw.{IsLastOr, found, is_last}
use Rattle.skopeo_words.proofs.TableLaw.{takes_kind, kind_takes, for_has, has_for}

pub or_none : (a b : Option WordsFault) → or_fault a b ≡ None → (a ≡ None) × (b ≡ None)
or_none None b h = (refl, h)
or_none (Some e) b h = cc h

pub or_some : (a b : Option WordsFault) (e : WordsFault) → or_fault a b ≡ Some e → (a ≡ Some e) ⊎ ((a ≡ None) × (b ≡ Some e))
or_some None b e h = inr (refl, h)
or_some (Some f) b e h = inl h

pub same_fault : (e f : WordsFault) → Some e ≡ Some f → f ≡ e
same_fault e f h = let same : e ≡ f = cc h in sym same

-- ---- the first part that a test refuses

-- a test says of each part whether it is fine, and what is wrong with it
record Tells (test : Part → Option WordsFault) (Fine : Part → Type 0) (Bad : Part → WordsFault → Type 0) : Type 0 where
  fine : (p : Part) → test p ≡ None → Fine p
  passes : (p : Part) → Fine p → test p ≡ None
  bad : (p : Part) (e : WordsFault) → test p ≡ Some e → Bad p e
  refuses : (p : Part) (e : WordsFault) → Bad p e → test p ≡ Some e

module _ (test : Part → Option WordsFault) (Fine : Part → Type 0) (Bad : Part → WordsFault → Type 0) (tells : Tells test Fine Bad) where
  none_found : (parts : List Part) → first_fault test parts ≡ None → All Fine parts
  none_found [] h = All-nil Fine
  none_found (p ∷ more) h =
      let s = or_none (test p) (first_fault test more) h in
      All-cons Fine p more (tells.fine p s.0) (none_found more s.1)

  found_none : (parts : List Part) → All Fine parts → first_fault test parts ≡ None
  found_none [] a = refl
  found_none (p ∷ more) a =
      rw (tells.passes p (All-head Fine p more a)) (found_none more (All-tail Fine p more a))

  here_or_later : (p : Part) (more : List Part) (e : WordsFault) (o : Option WordsFault) → test p ≡ o → or_fault o (first_fault test more) ≡ Some e → (first_fault test more ≡ Some e → IsFirst Fine Bad more e) → IsFirst Fine Bad (p ∷ more) e
  here_or_later p more e (Some f) k h ih = record {
    before = [];
    part = p;
    after = more;
    joined = refl;
    fine_before = All-nil Fine;
    bad = tells.bad p e (k ∙ h);
  }
  here_or_later p more e None k h ih =
      let later = ih h in
      record {
        before = p ∷ later.before;
        part = later.part;
        after = later.after;
        joined = ap (λ (ps : List Part). p ∷ ps) later.joined;
        fine_before = All-cons Fine p later.before (tells.fine p k) later.fine_before;
        bad = later.bad;
      }

  first_is : (parts : List Part) (e : WordsFault) → first_fault test parts ≡ Some e → IsFirst Fine Bad parts e
  first_is [] e h = cc h
  first_is (p ∷ more) e h = here_or_later p more e (test p) refl h (first_is more e)

  passed : (before : List Part) (part : Part) (after : List Part) (e : WordsFault) → All Fine before → Bad part e → first_fault test (before ++ (part ∷ after)) ≡ Some e
  passed [] part after e n h = rw (tells.refuses part e h) refl
  passed (p ∷ before) part after e n h =
      rw (tells.passes p (All-head Fine p before n)) (passed before part after e (All-tail Fine p before n) h)

  is_first : (parts : List Part) (e : WordsFault) → IsFirst Fine Bad parts e → first_fault test parts ≡ Some e
  is_first parts e f = ap (first_fault test) f.joined ∙ passed f.before f.part f.after e f.fine_before f.bad

-- ---- a word that is wrong in itself

part_fine : (past : ℕ) (p : Part) → part_fault past p ≡ None → IsGood p
part_fine past (plain place word) h = tt
part_fine past (given place name value) h =
    elim (cases_Bool (is_value (kind_of name) value)) [
      | inl good ↦ kind_takes name value good
      | inr bad ↦ cc (rw bad at h)
    ]
part_fine past (lacking name) h = cc h
part_fine past mark h = tt
part_fine past (unknown place word) h = cc h

part_passes : (past : ℕ) (p : Part) → IsGood p → part_fault past p ≡ None
part_passes past (plain place word) g = refl
part_passes past (given place name value) g = rw (takes_kind name value g) refl
part_passes past (lacking name) g = absurd g
part_passes past mark g = refl
part_passes past (unknown place word) g = absurd g

part_bad : (past : ℕ) (p : Part) (e : WordsFault) → part_fault past p ≡ Some e → IsPartFault past p e
part_bad past (plain place word) e h = cc h
part_bad past (given place name value) e h =
    elim (cases_Bool (is_value (kind_of name) value)) [
      | inl good ↦ absurd (let none : None ≡ Some e = rw good at h in cc none)
      | inr bad ↦ (λ t. both_ways (is_value (kind_of name) value) bad (takes_kind name value t), same_fault (At place kind.BadValue) e (rw bad at h))
    ]
part_bad past (lacking name) e h = same_fault (At past kind.MissingValue) e h
part_bad past mark e h = cc h
part_bad past (unknown place word) e h = same_fault (At place kind.UnknownOption) e h

part_refuses : (past : ℕ) (p : Part) (e : WordsFault) → IsPartFault past p e → part_fault past p ≡ Some e
part_refuses past (plain place word) e h = absurd h
part_refuses past (given place name value) e (bad, same) =
    rw (false_from_ne_true (is_value (kind_of name) value) (λ good. bad (kind_takes name value good))) (ap Some (sym same))
part_refuses past (lacking name) e same = ap Some (sym same)
part_refuses past mark e h = absurd h
part_refuses past (unknown place word) e same = ap Some (sym same)

part_tells : (past : ℕ) → Tells (part_fault past) IsGood (IsPartFault past)
part_tells past = record { fine = part_fine past; passes = part_passes past; bad = part_bad past; refuses = part_refuses past }

pub all_good : (past : ℕ) (parts : List Part) → bad_part past parts ≡ None → All IsGood parts
all_good past parts h = none_found (part_fault past) IsGood (IsPartFault past) (part_tells past) parts h

pub good_all : (past : ℕ) (parts : List Part) → All IsGood parts → bad_part past parts ≡ None
good_all past parts a = found_none (part_fault past) IsGood (IsPartFault past) (part_tells past) parts a

pub first_bad : (past : ℕ) (parts : List Part) (e : WordsFault) → bad_part past parts ≡ Some e → IsFirst IsGood (IsPartFault past) parts e
first_bad past parts e h = first_is (part_fault past) IsGood (IsPartFault past) (part_tells past) parts e h

pub bad_first : (past : ℕ) (parts : List Part) (e : WordsFault) → IsFirst IsGood (IsPartFault past) parts e → bad_part past parts ≡ Some e
bad_first past parts e f = is_first (part_fault past) IsGood (IsPartFault past) (part_tells past) parts e f

-- ---- an option of other commands

other_fine : (name : CommandName) (p : Part) → other_fault name p ≡ None → IsFor name p
other_fine name (plain place word) h = tt
other_fine name (given place option value) h =
    elim (cases_Bool (is_for option name)) [
      | inl own ↦ for_has option name own
      | inr other ↦ cc (rw other at h)
    ]
other_fine name (lacking option) h = tt
other_fine name mark h = tt
other_fine name (unknown place word) h = tt

other_passes : (name : CommandName) (p : Part) → IsFor name p → other_fault name p ≡ None
other_passes name (plain place word) g = refl
other_passes name (given place option value) g = rw (has_for option name g) refl
other_passes name (lacking option) g = refl
other_passes name mark g = refl
other_passes name (unknown place word) g = refl

other_bad : (name : CommandName) (p : Part) (e : WordsFault) → other_fault name p ≡ Some e → IsOtherFault name p e
other_bad name (plain place word) e h = cc h
other_bad name (given place option value) e h =
    elim (cases_Bool (is_for option name)) [
      | inl own ↦ absurd (let none : None ≡ Some e = rw own at h in cc none)
      | inr other ↦ (λ own. both_ways (is_for option name) other (has_for option name own), same_fault (At place kind.NotForCommand) e (rw other at h))
    ]
other_bad name (lacking option) e h = cc h
other_bad name mark e h = cc h
other_bad name (unknown place word) e h = cc h

other_refuses : (name : CommandName) (p : Part) (e : WordsFault) → IsOtherFault name p e → other_fault name p ≡ Some e
other_refuses name (plain place word) e h = absurd h
other_refuses name (given place option value) e (other, same) =
    rw (false_from_ne_true (is_for option name) (λ own. other (for_has option name own))) (ap Some (sym same))
other_refuses name (lacking option) e h = absurd h
other_refuses name mark e h = absurd h
other_refuses name (unknown place word) e h = absurd h

other_tells : (name : CommandName) → Tells (other_fault name) (IsFor name) (IsOtherFault name)
other_tells name = record { fine = other_fine name; passes = other_passes name; bad = other_bad name; refuses = other_refuses name }

pub all_own : (name : CommandName) (parts : List Part) → other_option name parts ≡ None → All (IsFor name) parts
all_own name parts h = none_found (other_fault name) (IsFor name) (IsOtherFault name) (other_tells name) parts h

pub own_all : (name : CommandName) (parts : List Part) → All (IsFor name) parts → other_option name parts ≡ None
own_all name parts a = found_none (other_fault name) (IsFor name) (IsOtherFault name) (other_tells name) parts a

pub first_other : (name : CommandName) (parts : List Part) (e : WordsFault) → other_option name parts ≡ Some e → IsFirst (IsFor name) (IsOtherFault name) parts e
first_other name parts e h = first_is (other_fault name) (IsFor name) (IsOtherFault name) (other_tells name) parts e h

pub other_first : (name : CommandName) (parts : List Part) (e : WordsFault) → IsFirst (IsFor name) (IsOtherFault name) parts e → other_option name parts ≡ Some e
other_first name parts e f = is_first (other_fault name) (IsFor name) (IsOtherFault name) (other_tells name) parts e f

-- ---- the number of operands

one_from : (past : ℕ) (operands : List Placed) → not_one past operands ≡ None → length operands ≡ 1
one_from past [] h = cc h
one_from past (a ∷ []) h = refl
one_from past (a ∷ b ∷ more) h = cc h

one_to : (past : ℕ) (operands : List Placed) → length operands ≡ 1 → not_one past operands ≡ None
one_to past [] h = absurd (omega (arith, h))
one_to past (a ∷ []) h = refl
one_to past (a ∷ b ∷ more) h = absurd (omega (arith, h))

two_from : (past : ℕ) (operands : List Placed) → not_two past operands ≡ None → length operands ≡ 2
two_from past [] h = cc h
two_from past (a ∷ []) h = cc h
two_from past (a ∷ b ∷ []) h = refl
two_from past (a ∷ b ∷ c ∷ more) h = cc h

two_to : (past : ℕ) (operands : List Placed) → length operands ≡ 2 → not_two past operands ≡ None
two_to past [] h = absurd (omega (arith, h))
two_to past (a ∷ []) h = absurd (omega (arith, h))
two_to past (a ∷ b ∷ []) h = refl
two_to past (a ∷ b ∷ c ∷ more) h = absurd (omega (arith, h))

pub count_from : (past : ℕ) (name : CommandName) (operands : List Placed) → operand_fault past name operands ≡ None → length operands ≡ wanted name
count_from past Copy operands h = two_from past operands h
count_from past Sync operands h = two_from past operands h
count_from past Inspect operands h = one_from past operands h
count_from past ListTags operands h = one_from past operands h
count_from past Delete operands h = one_from past operands h
count_from past MakeImages operands h = two_from past operands h

pub count_to : (past : ℕ) (name : CommandName) (operands : List Placed) → length operands ≡ wanted name → operand_fault past name operands ≡ None
count_to past Copy operands h = two_to past operands h
count_to past Sync operands h = two_to past operands h
count_to past Inspect operands h = one_to past operands h
count_to past ListTags operands h = one_to past operands h
count_to past Delete operands h = one_to past operands h
count_to past MakeImages operands h = two_to past operands h

one_bad : (past : ℕ) (operands : List Placed) (e : WordsFault) → not_one past operands ≡ Some e → IsCountFault past 1 operands e
one_bad past [] e h = inl (omega arith, same_fault (At past kind.MissingOperand) e h)
one_bad past (a ∷ []) e h = cc h
one_bad past (a ∷ b ∷ more) e h =
    inr (record { before = a ∷ []; extra = b; after = more; joined = refl; enough = refl; place = same_fault (At b.at kind.ExtraOperand) e h })

two_bad : (past : ℕ) (operands : List Placed) (e : WordsFault) → not_two past operands ≡ Some e → IsCountFault past 2 operands e
two_bad past [] e h = inl (omega arith, same_fault (At past kind.MissingOperand) e h)
two_bad past (a ∷ []) e h = inl (omega arith, same_fault (At past kind.MissingOperand) e h)
two_bad past (a ∷ b ∷ []) e h = cc h
two_bad past (a ∷ b ∷ c ∷ more) e h =
    inr (record { before = a ∷ b ∷ []; extra = c; after = more; joined = refl; enough = refl; place = same_fault (At c.at kind.ExtraOperand) e h })

extra_one : (past : ℕ) (before : List Placed) (extra : Placed) (after : List Placed) → length before ≡ 1 → not_one past (before ++ (extra ∷ after)) ≡ Some (At extra.at kind.ExtraOperand)
extra_one past [] extra after h = absurd (omega (arith, h))
extra_one past (a ∷ []) extra after h = refl
extra_one past (a ∷ b ∷ more) extra after h = absurd (omega (arith, h))

extra_two : (past : ℕ) (before : List Placed) (extra : Placed) (after : List Placed) → length before ≡ 2 → not_two past (before ++ (extra ∷ after)) ≡ Some (At extra.at kind.ExtraOperand)
extra_two past [] extra after h = absurd (omega (arith, h))
extra_two past (a ∷ []) extra after h = absurd (omega (arith, h))
extra_two past (a ∷ b ∷ []) extra after h = refl
extra_two past (a ∷ b ∷ c ∷ more) extra after h = absurd (omega (arith, h))

few_one : (past : ℕ) (operands : List Placed) → length operands < 1 → not_one past operands ≡ Some (At past kind.MissingOperand)
few_one past [] h = refl
few_one past (a ∷ more) h = absurd (omega (arith, h))

few_two : (past : ℕ) (operands : List Placed) → length operands < 2 → not_two past operands ≡ Some (At past kind.MissingOperand)
few_two past [] h = refl
few_two past (a ∷ []) h = refl
few_two past (a ∷ b ∷ more) h = absurd (omega (arith, h))

bad_one : (past : ℕ) (operands : List Placed) (e : WordsFault) → IsCountFault past 1 operands e → not_one past operands ≡ Some e
bad_one past operands e (inl (few, same)) = few_one past operands few ∙ ap Some (sym same)
bad_one past operands e (inr h) = ap (not_one past) h.joined ∙ extra_one past h.before h.extra h.after h.enough ∙ ap Some (sym h.place)

bad_two : (past : ℕ) (operands : List Placed) (e : WordsFault) → IsCountFault past 2 operands e → not_two past operands ≡ Some e
bad_two past operands e (inl (few, same)) = few_two past operands few ∙ ap Some (sym same)
bad_two past operands e (inr h) = ap (not_two past) h.joined ∙ extra_two past h.before h.extra h.after h.enough ∙ ap Some (sym h.place)

pub count_bad : (past : ℕ) (name : CommandName) (operands : List Placed) (e : WordsFault) → operand_fault past name operands ≡ Some e → IsCountFault past (wanted name) operands e
count_bad past Copy operands e h = two_bad past operands e h
count_bad past Sync operands e h = two_bad past operands e h
count_bad past Inspect operands e h = one_bad past operands e h
count_bad past ListTags operands e h = one_bad past operands e h
count_bad past Delete operands e h = one_bad past operands e h
count_bad past MakeImages operands e h = two_bad past operands e h

pub bad_count : (past : ℕ) (name : CommandName) (operands : List Placed) (e : WordsFault) → IsCountFault past (wanted name) operands e → operand_fault past name operands ≡ Some e
bad_count past Copy operands e h = bad_two past operands e h
bad_count past Sync operands e h = bad_two past operands e h
bad_count past Inspect operands e h = bad_one past operands e h
bad_count past ListTags operands e h = bad_one past operands e h
bad_count past Delete operands e h = bad_one past operands e h
bad_count past MakeImages operands e h = bad_two past operands e h

-- ---- the ends of sync

there_from : (name : OptionName) (parts : List Part) (o : Option Placed) → IsLastOr name parts o → is_some o ≡ true → IsThere name parts
there_from name parts (Some value) last h = (value, last)
there_from name parts None none h = absurd (cc h)

there_to : (name : OptionName) (parts : List Part) → IsThere name parts → is_some (last_of name parts) ≡ true
there_to name parts (value, last) = rw (is_last name parts value last) refl

ends_there : (parts : List Part) → (is_some (last_of Src parts) && is_some (last_of Dest parts)) ≡ true → HasEnds Sync parts
ends_there parts h =
    let b = and_parts (is_some (last_of Src parts)) (is_some (last_of Dest parts)) h in
    (there_from Src parts (last_of Src parts) (found Src parts) b.0, there_from Dest parts (last_of Dest parts) (found Dest parts) b.1)

there_ends : (parts : List Part) → HasEnds Sync parts → (is_some (last_of Src parts) && is_some (last_of Dest parts)) ≡ true
there_ends parts (src, dest) = and_from (is_some (last_of Src parts)) (is_some (last_of Dest parts)) (there_to Src parts src) (there_to Dest parts dest)

pub ends_from : (past : ℕ) (name : CommandName) (parts : List Part) → missing_option past name parts ≡ None → HasEnds name parts
ends_from past Copy parts h = tt
ends_from past Sync parts h =
    elim (cases_Bool (is_some (last_of Src parts) && is_some (last_of Dest parts))) [
      | inl there ↦ ends_there parts there
      | inr absent ↦ absurd (let e : Some (At past kind.MissingOption) ≡ None = rw absent at h in cc e)
    ]
ends_from past Inspect parts h = tt
ends_from past ListTags parts h = tt
ends_from past Delete parts h = tt
ends_from past MakeImages parts h = tt

pub ends_to : (past : ℕ) (name : CommandName) (parts : List Part) → HasEnds name parts → missing_option past name parts ≡ None
ends_to past Copy parts h = refl
ends_to past Sync parts h = rw (there_ends parts h) refl
ends_to past Inspect parts h = refl
ends_to past ListTags parts h = refl
ends_to past Delete parts h = refl
ends_to past MakeImages parts h = refl

-- `sync` lacks an end
abbrev LacksEnd : ℕ → CommandName → List Part → WordsFault → Type 0
LacksEnd past name parts e = (HasEnds name parts → ⊥) × (e ≡ At past kind.MissingOption)

pub ends_bad : (past : ℕ) (name : CommandName) (parts : List Part) (e : WordsFault) → missing_option past name parts ≡ Some e → LacksEnd past name parts e
ends_bad past Copy parts e h = cc h
ends_bad past Sync parts e h =
    elim (cases_Bool (is_some (last_of Src parts) && is_some (last_of Dest parts))) [
      | inl there ↦ absurd (let none : None ≡ Some e = rw there at h in cc none)
      | inr absent ↦
          (λ ends. let both : true ≡ false = sym (there_ends parts ends) ∙ absent in cc both, same_fault (At past kind.MissingOption) e (rw absent at h))
    ]
ends_bad past Inspect parts e h = cc h
ends_bad past ListTags parts e h = cc h
ends_bad past Delete parts e h = cc h
ends_bad past MakeImages parts e h = cc h

pub bad_ends : (past : ℕ) (name : CommandName) (parts : List Part) (e : WordsFault) → LacksEnd past name parts e → missing_option past name parts ≡ Some e
bad_ends past Copy parts e (none, same) = absurd (none tt)
bad_ends past Sync parts e (none, same) =
    rw (false_from_ne_true (is_some (last_of Src parts) && is_some (last_of Dest parts)) (λ there. none (ends_there parts there))) (ap Some (sym same))
bad_ends past Inspect parts e (none, same) = absurd (none tt)
bad_ends past ListTags parts e (none, same) = absurd (none tt)
bad_ends past Delete parts e (none, same) = absurd (none tt)
bad_ends past MakeImages parts e (none, same) = absurd (none tt)

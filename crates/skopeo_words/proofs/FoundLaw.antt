-- The last value of an option, as it is found, is the last that a part gives.
use Rattle.std.proofs.Common.{◌≡◌, ℕ, List, [], ◌∷◌, ◌++◌, get_or, Option, Some, None, true, refl, sym, ap, subst, ◌∙◌, inl, inr}
use Rattle.std.specs.List.{All}
use Rattle.std.specs.Str.{bytes_eq}
use Rattle.std.proofs.lemmas.Slice.Eq.{bytes_eq-Decides}
use Rattle.std.proofs.lemmas.Bool.{cases_Bool, eqb-true, eq-eqb, both_ways, false_from_ne_true}
use Rattle.std.proofs.lemmas.List.Elements.{All-cons, All-nil, All-head, All-tail}
use Rattle.skopeo_words.specs.Found.{Placed, GivesNone, IsAbsent, IsLast}
use Rattle.skopeo_words.specs.LastOf.{or_else, value_in, last_of}
use Rattle.skopeo_words.specs.Parts.{Part, plain, given, lacking, mark, unknown}
use Rattle.skopeo_words.specs.Table.{row_of, same_option, row, options}
use Rattle.skopeo_words.specs.declared.table.Kind.TheVariants as kind
use Rattle.skopeo_words.specs.declared.table.OptionName.{OptionName}
use Rattle.skopeo_words.specs.declared.table.OptionName.TheVariants as option

pub same_text : (a b : List ℕ) → bytes_eq a b ≡ true → a ≡ b
same_text a b = (bytes_eq-Decides a b).0

pub text_same : (a b : List ℕ) → a ≡ b → bytes_eq a b ≡ true
text_same a b = (bytes_eq-Decides a b).1

-- ---- names of one option

abbrev pub named_at : ℕ → OptionName
named_at n = (get_or options n (row [] option.Policy kind.Truth [])).name

pub at_row : (a : OptionName) → named_at (row_of a) ≡ a
at_row option.Policy = refl
at_row option.RegistriesConf = refl
at_row option.LocationCache = refl
at_row option.InsecurePolicy = refl
at_row option.OverrideOs = refl
at_row option.OverrideArch = refl
at_row option.OverrideVariant = refl
at_row option.Lanes = refl
at_row option.All = refl
at_row option.PreserveDigests = refl
at_row option.RemoveSignatures = refl
at_row option.Format = refl
at_row option.SrcTlsVerify = refl
at_row option.DestTlsVerify = refl
at_row option.Lookaside = refl
at_row option.Verifier = refl
at_row option.Quiet = refl
at_row option.ShortNames = refl
at_row option.Scoped = refl
at_row option.Src = refl
at_row option.Dest = refl
at_row option.Raw = refl
at_row option.Config = refl
at_row option.NoTags = refl
at_row option.TlsVerify = refl

pub same_is : (a b : OptionName) → same_option a b ≡ true → b ≡ a
same_is a b h = sym (at_row b) ∙ sym (ap named_at (eqb-true (row_of a) (row_of b) h)) ∙ at_row a

pub same_self : (a : OptionName) → same_option a a ≡ true
same_self a = eq-eqb (row_of a) (row_of a) refl

-- ---- what is found

-- the last value where there is one, and else none at all
abbrev pub IsLastOr : OptionName → List Part → Option Placed → Type 0
IsLastOr name parts None = IsAbsent name parts
IsLastOr name parts (Some value) = IsLast name parts value

here : (name : OptionName) (p : Part) (more : List Part) → IsAbsent name more → IsLastOr name (p ∷ more) (value_in name p)
here name (plain place word) more none = All-cons (GivesNone name) (plain place word) more tt none
here name (given place other value) more none =
    elim (cases_Bool (same_option name other)) [
      | inl same ↦ rw same (record {
        before = [];
        after = more;
        joined = ap (λ n. given place n value ∷ more) (same_is name other same);
        none_behind = none;
      })
      | inr differ ↦ rw differ (All-cons (GivesNone name) (given place other value) more
          (λ e. both_ways (same_option name other) differ (subst (λ n. same_option name n ≡ true) (sym e) (same_self name))) none)
    ]
here name (lacking other) more none = All-cons (GivesNone name) (lacking other) more tt none
here name mark more none = All-cons (GivesNone name) mark more tt none
here name (unknown place word) more none = All-cons (GivesNone name) (unknown place word) more tt none

behind : (name : OptionName) (p : Part) (more : List Part) (o : Option Placed) → IsLastOr name more o → IsLastOr name (p ∷ more) (or_else o (value_in name p))
behind name p more None none = here name p more none
behind name p more (Some value) last = record {
  before = p ∷ last.before;
  after = last.after;
  joined = ap (λ (ps : List Part). p ∷ ps) last.joined;
  none_behind = last.none_behind;
}

pub found : (name : OptionName) (parts : List Part) → IsLastOr name parts (last_of name parts)
found name [] = All-nil (GivesNone name)
found name (p ∷ more) = behind name p more (last_of name more) (found name more)

no_value : (name : OptionName) (p : Part) → GivesNone name p → value_in name p ≡ None
no_value name (plain place word) none = refl
no_value name (given place other value) none =
    rw (false_from_ne_true (same_option name other) (λ same. none (same_is name other same))) refl
no_value name (lacking other) none = refl
no_value name mark none = refl
no_value name (unknown place word) none = refl

pub none_of : (name : OptionName) (parts : List Part) → IsAbsent name parts → last_of name parts ≡ None
none_of name [] none = refl
none_of name (p ∷ more) none =
    rw (none_of name more (All-tail (GivesNone name) p more none)) (no_value name p (All-head (GivesNone name) p more none))

last_in : (name : OptionName) (before after : List Part) (at : ℕ) (text : List ℕ) → IsAbsent name after → last_of name (before ++ (given at name text ∷ after)) ≡ Some (record { at = at; text = text })
last_in name [] after at text none = rw (none_of name after none, same_self name) refl
last_in name (p ∷ before) after at text none = rw (last_in name before after at text none) refl

pub is_last : (name : OptionName) (parts : List Part) (value : Placed) → IsLast name parts value → last_of name parts ≡ Some value
is_last name parts value last = ap (last_of name) last.joined ∙ last_in name last.before last.after value.at value.text last.none_behind

-- ---- parts in the middle

pub rest_all : (P : Part → Type 0) (before after : List Part) → All P (before ++ after) → All P after
rest_all P [] after all = all
rest_all P (p ∷ before) after all = rest_all P before after (All-tail P p (before ++ after) all)

pub middle : (P : Part → Type 0) (before : List Part) (p : Part) (after : List Part) → All P (before ++ (p ∷ after)) → P p
middle P before p after all = All-head P p after (rest_all P before (p ∷ after) all)

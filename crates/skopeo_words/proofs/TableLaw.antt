-- The rows of the table, and what is looked up in it.
use Rattle.std.proofs.Common.{◌≡◌, ℕ, ◌<◌, List, [], ◌∷◌, ◌++◌, ◌==◌, length, get_or, Bool, true, Some, refl, sym, ap, subst, ◌∙◌, arith, inl, inr, codes}
use Rattle.std.specs.Prelude.{Contains}
use Rattle.std.specs.List.{All, list_any}
use Rattle.std.specs.Str.{bytes_eq}
use Rattle.std.specs.Cmp.{on_equiv, nat_eq_equiv}
use Rattle.std.proofs.lemmas.Bool.{cases_Bool, eqb-true}
use Rattle.std.proofs.lemmas.List.Elements.{All-from_recursion, All-contains, Contains-get_or, Contains-append_left, Contains-append_right}
use Rattle.std.proofs.lemmas.Map.Views.{Contains-from_any, list_any-from_Contains}
use Rattle.skopeo_words.specs.CommandOf.{TakesValue, IsForCommand}
use Rattle.skopeo_words.specs.Forms.{gives, form_of_kind, form_of}
use Rattle.skopeo_words.specs.Line.{IsRowOf}
use Rattle.skopeo_words.specs.Table.{row_of, command_row, Row, row, every, options, named_in, option_named, kind_of, is_for}
use Rattle.skopeo_words.specs.Values.{is_value}
use Rattle.skopeo_words.specs.declared.command.CommandName.{CommandName}
use Rattle.skopeo_words.specs.declared.command.CommandName.TheVariants as command
use Rattle.skopeo_words.specs.declared.table.Kind.TheVariants as kind
use Rattle.skopeo_words.specs.declared.table.OptionName.{OptionName}
use Rattle.skopeo_words.specs.declared.table.OptionName.TheVariants as option
use Rattle.skopeo_words.proofs.FoundLaw.{at_row, same_text}

-- ---- each row

abbrev KindIs : Row → Type 0
KindIs r = kind_of r.name ≡ r.kind

kinds_are : All KindIs options
unfolding kind_of
kinds_are = All-from_recursion KindIs options (refl, (refl, (refl, (refl, (refl, (refl, (refl, (refl, (refl, (refl, (refl, (refl, (refl, (refl, (refl, (refl, (refl, (refl, (refl, (refl, (refl, (refl, (refl, (refl, (refl, tt)))))))))))))))))))))))))

abbrev has : CommandName → CommandName → Bool
has command c = command_row command == command_row c

abbrev ForIs : Row → Type 0
ForIs r = (command : CommandName) → is_for r.name command ≡ list_any (has command) r.commands

fors_are : All ForIs options
unfolding is_for
fors_are = All-from_recursion ForIs options (λ _. refl, (λ _. refl, (λ _. refl, (λ _. refl, (λ _. refl, (λ _. refl, (λ _. refl, (λ _. refl, (λ _. refl, (λ _. refl, (λ _. refl, (λ _. refl, (λ _. refl, (λ _. refl, (λ _. refl, (λ _. refl, (λ _. refl, (λ _. refl, (λ _. refl, (λ _. refl, (λ _. refl, (λ _. refl, (λ _. refl, (λ _. refl, (λ _. refl, tt)))))))))))))))))))))))))

abbrev BareIs : Row → Type 0
BareIs r = form_of (codes "--" ++ r.text) ≡ form_of_kind r.name r.kind

bares_are : All BareIs options
unfolding form_of option_named kind_of
bares_are = All-from_recursion BareIs options (refl, (refl, (refl, (refl, (refl, (refl, (refl, (refl, (refl, (refl, (refl, (refl, (refl, (refl, (refl, (refl, (refl, (refl, (refl, (refl, (refl, (refl, (refl, (refl, (refl, tt)))))))))))))))))))))))))

abbrev WithIs : Row → Type 0
WithIs r = (value : List ℕ) → form_of (codes "--" ++ (r.text ++ (61 ∷ value))) ≡ gives r.name value

withs_are : All WithIs options
unfolding form_of option_named
withs_are = All-from_recursion WithIs options (λ _. refl, (λ _. refl, (λ _. refl, (λ _. refl, (λ _. refl, (λ _. refl, (λ _. refl, (λ _. refl, (λ _. refl, (λ _. refl, (λ _. refl, (λ _. refl, (λ _. refl, (λ _. refl, (λ _. refl, (λ _. refl, (λ _. refl, (λ _. refl, (λ _. refl, (λ _. refl, (λ _. refl, (λ _. refl, (λ _. refl, (λ _. refl, (λ _. refl, tt)))))))))))))))))))))))))

pub kind_is : (r : Row) → Contains options r → kind_of r.name ≡ r.kind
kind_is r there = All-contains KindIs options r kinds_are there

pub for_is : (r : Row) → Contains options r → ForIs r
for_is r there = All-contains ForIs options r fors_are there

pub bare_is : (r : Row) → Contains options r → BareIs r
bare_is r there = All-contains BareIs options r bares_are there

pub with_is : (r : Row) → Contains options r → WithIs r
with_is r there = All-contains WithIs options r withs_are there

-- ---- the row of a name

below : (name : OptionName) → row_of name < length options
below option.Policy = omega arith
below option.RegistriesConf = omega arith
below option.LocationCache = omega arith
below option.InsecurePolicy = omega arith
below option.OverrideOs = omega arith
below option.OverrideArch = omega arith
below option.OverrideVariant = omega arith
below option.Lanes = omega arith
below option.All = omega arith
below option.PreserveDigests = omega arith
below option.RemoveSignatures = omega arith
below option.Format = omega arith
below option.SrcTlsVerify = omega arith
below option.DestTlsVerify = omega arith
below option.Lookaside = omega arith
below option.Verifier = omega arith
below option.Quiet = omega arith
below option.ShortNames = omega arith
below option.Scoped = omega arith
below option.Src = omega arith
below option.Dest = omega arith
below option.Raw = omega arith
below option.Config = omega arith
below option.NoTags = omega arith
below option.TlsVerify = omega arith

pub row_for : (name : OptionName) → (r : Row) × IsRowOf r name
row_for name = (
  get_or options (row_of name) (row [] option.Policy kind.Truth []),
  record {
    there = Contains-get_or options (row_of name) (row [] option.Policy kind.Truth []) (below name);
    same = at_row name;
  },
)

-- the first row that is written so
named_row : (rows : List Row) (text : List ℕ) (name : OptionName) → named_in rows text ≡ Some name → (r : Row) × Contains rows r × (r.text ≡ text) × (r.name ≡ name)
named_row [] text name h = absurd (cc h)
named_row (r ∷ more) text name h =
    elim (cases_Bool (bytes_eq text r.text)) [
      | inl same ↦
          let is : Some r.name ≡ Some name = rw same at h in
          (r, Contains-append_left (r ∷ []) more r (0, omega arith, refl), sym (same_text text r.text same), cc is)
      | inr other ↦
          let later = named_row more text name (rw other at h) in
          (later.0, Contains-append_right (r ∷ []) more later.0 later.1, later.2, later.3)
    ]

pub option_row : (text : List ℕ) (name : OptionName) → option_named text ≡ Some name → (r : Row) × Contains options r × (r.text ≡ text) × (r.name ≡ name)
unfolding option_named
option_row text name h = named_row options text name h

-- ---- values

pub takes_kind : (name : OptionName) (value : List ℕ) → TakesValue name value → is_value (kind_of name) value ≡ true
takes_kind name value h =
    let same : kind_of name ≡ h.entry.kind = ap kind_of (sym h.of_name.same) ∙ kind_is h.entry h.of_name.there in
    rw same h.takes

pub kind_takes : (name : OptionName) (value : List ℕ) → is_value (kind_of name) value ≡ true → TakesValue name value
kind_takes name value h =
    let found = row_for name in
    let same : kind_of name ≡ found.0.kind = ap kind_of (sym found.1.same) ∙ kind_is found.0 found.1.there in
    record { entry = found.0; of_name = found.1; takes = subst (λ k. is_value k value ≡ true) same h }

-- ---- commands

command_at : (c : CommandName) → get_or every (command_row c) command.Copy ≡ c
command_at command.Copy = refl
command_at command.Sync = refl
command_at command.Inspect = refl
command_at command.ListTags = refl
command_at command.Delete = refl
command_at command.MakeImages = refl

same_command : (a b : CommandName) → has a b ≡ true → a ≡ b
same_command a b h = sym (command_at a) ∙ ap (λ n. get_or every n command.Copy) (eqb-true (command_row a) (command_row b) h) ∙ command_at b

pub any_command : (c : CommandName) (cs : List CommandName) → list_any (has c) cs ≡ true → Contains cs c
any_command c cs h = Contains-from_any same_command c cs h

pub command_any : (c : CommandName) (cs : List CommandName) → Contains cs c → list_any (has c) cs ≡ true
command_any c cs h = list_any-from_Contains (on_equiv command_row nat_eq_equiv) c cs h

pub for_has : (name : OptionName) (c : CommandName) → is_for name c ≡ true → IsForCommand name c
for_has name c h =
    let found = row_for name in
    let is : is_for found.0.name c ≡ true = subst (λ n. is_for n c ≡ true) (sym found.1.same) h in
    record { entry = found.0; of_name = found.1; has = any_command c found.0.commands (sym (for_is found.0 found.1.there c) ∙ is) }

pub has_for : (name : OptionName) (c : CommandName) → IsForCommand name c → is_for name c ≡ true
has_for name c h =
    subst (λ n. is_for n c ≡ true) h.of_name.same (for_is h.entry h.of_name.there c ∙ command_any c h.entry.commands h.has)

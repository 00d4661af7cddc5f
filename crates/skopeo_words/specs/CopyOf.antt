-- What words ask for that ask for a copy (skopeo-copy(1), with this tool's own options).
--
--   line   = {operand | option} ["--" {operand}]
--   option = "--" name "=" value | ("--" name | letter) [value]
--
-- The operands are `copy` and two places. A truth option without "=" has the value `true`; another takes the next word, whatever
-- it is. Of an option that is given more than once the last value counts; one that is not given is None or false, or 6 lanes.
use Rattle.std.specs.Prelude.{◌≡◌, ◌≢◌, ◌⊎◌, ℕ, List, [], ◌∷◌, ◌++◌, Bool, true, false, Option, Some, None, Contains, codes, option_map, option_and_then, unwrap_or}
use Rattle.std.specs.List.{All}
use Rattle.skopeo_words.specs.Fields.{FitsPlace}
use Rattle.skopeo_words.specs.Line.{IsBare, IsWith, IsDashed}
use Rattle.skopeo_words.specs.Table.{Row, options}
use Rattle.skopeo_words.specs.Values.{truth_value, number_upto, format_value, without_slashes, is_value}
use Rattle.skopeo_words.specs.declared.command.CommandName.TheVariants.{Copy}
use Rattle.skopeo_words.specs.declared.command.Common.{Common}
use Rattle.skopeo_words.specs.declared.command.Passing.{Passing}
use Rattle.skopeo_words.specs.declared.table.Kind.TheVariants.{Truth}
use Rattle.skopeo_words.specs.declared.table.OptionName.{OptionName}
use Rattle.skopeo_words.specs.declared.table.OptionName.TheVariants as option

-- a row of the table that is for copies, and a value that its option takes
pub record IsOption (r : Row) (value : List ℕ) : Type 0 where
  pub there : Contains options r
  pub own : Contains r.commands Copy
  pub takes : is_value r.kind value ≡ true

-- the words that give the option of a row this value: one with `=`, the option alone, or the option and the value
abbrev pub Spell : List (List ℕ) → Row → List ℕ → Type 0
Spell [] r value = ⊥
Spell (word ∷ []) r value = IsWith word r value ⊎ (IsBare word r × (r.kind ≡ Truth) × (value ≡ codes "true"))
Spell (word ∷ next ∷ []) r value = IsBare word r × (r.kind ≢ Truth) × (next ≡ value)
Spell (word ∷ next ∷ other ∷ more) r value = ⊥

-- the words are these operands among options that are given these values; behind `--` all are operands
pub data AreGiven : List (List ℕ) → List (List ℕ) → List (OptionName × List ℕ) → Type 0 where
  none : AreGiven [] [] []
  rest : (operands : List (List ℕ)) → AreGiven (codes "--" ∷ operands) operands []
  operand :
      (word : List ℕ) (words operands : List (List ℕ)) (given : List (OptionName × List ℕ))
      → (IsDashed word → ⊥) → AreGiven words operands given → AreGiven (word ∷ words) (word ∷ operands) given
  an_option :
      (r : Row) (value : List ℕ) (front words operands : List (List ℕ)) (given : List (OptionName × List ℕ))
      → IsOption r value → Spell front r value → AreGiven words operands given
      → AreGiven (front ++ words) operands ((r.name, value) ∷ given)

-- the last value that the option is given, None where it is given none
abbrev pub IsLastOf : List (OptionName × List ℕ) → OptionName → Option (List ℕ) → Type 0
IsLastOf given name None = All (λ g. g.0 ≢ name) given
IsLastOf given name (Some value) =
    (before : List (OptionName × List ℕ)) × (after : List (OptionName × List ℕ))
    × (given ≡ before ++ ((name, value) ∷ after)) × All (λ g. g.0 ≢ name) after

-- a value that says yes
abbrev pub says_yes : Option (List ℕ) → Bool
says_yes value = unwrap_or (option_and_then truth_value value) false

-- the options that every command has, by the last value of each
abbrev pub common_by : (OptionName → Option (List ℕ)) → Common
common_by value = record {
  policy = value option.Policy;
  registries_conf = value option.RegistriesConf;
  location_cache = value option.LocationCache;
  insecure_policy = says_yes (value option.InsecurePolicy);
  os = value option.OverrideOs;
  arch = value option.OverrideArch;
  variant = value option.OverrideVariant;
  lanes = unwrap_or (option_and_then (number_upto 16) (value option.Lanes)) 6;
}

-- the options of the commands that copy images, by the last value of each
abbrev pub passing_by : (OptionName → Option (List ℕ)) → Passing
passing_by value = record {
  all = says_yes (value option.All);
  preserve = says_yes (value option.PreserveDigests);
  remove_signatures = says_yes (value option.RemoveSignatures);
  format = option_and_then format_value (value option.Format);
  src_tls = option_and_then truth_value (value option.SrcTlsVerify);
  dest_tls = option_and_then truth_value (value option.DestTlsVerify);
  lookaside = option_map without_slashes (value option.Lookaside);
  verifier = value option.Verifier;
}

-- the words ask for a copy with these fields
pub record CopyOf (words : List (List ℕ)) (common : Common) (passing : Passing) (quiet short_names : Bool)
    (source dest : List ℕ) : Type 0 where
  pub given : List (OptionName × List ℕ)
  pub are_given : AreGiven words (codes "copy" ∷ source ∷ dest ∷ []) given
  pub value : OptionName → Option (List ℕ)
  pub last : (name : OptionName) → IsLastOf given name (value name)
  pub is_common : common ≡ common_by value
  pub is_passing : passing ≡ passing_by value
  pub is_quiet : quiet ≡ says_yes (value option.Quiet)
  pub is_short : short_names ≡ says_yes (value option.ShortNames)
  pub fits : FitsPlace passing dest

-- The rows of a command's fields have one command, and it is the one that is made.
use Rattle.std.proofs.Common.{◌≡◌, ℕ, List, [], ◌∷◌, length, Bool, true, false, Option, Some, None, refl, sym, ap, subst, ◌∙◌, arith, inl, inr}
use Rattle.std.specs.Prelude.{IsSome, option_map, option_and_then, unwrap_or}
use Rattle.std.specs.List.{All}
use Rattle.skopeo_words.specs.CommandOf.{IsGood}
use Rattle.skopeo_words.specs.Fields.{IsText, IsFlag, IsChoice, base_value, AreCommon, ArePassing, HaveTexts, AreNumbered, HasFields}
use Rattle.skopeo_words.specs.FirstFault.{wanted, IsThere, HasEnds}
use Rattle.skopeo_words.specs.Found.{Placed, IsLast, as_written, Says, IsGiven, IsOr}
use Rattle.skopeo_words.specs.LastOf.{last_of, text_of, first_text, second_text}
use Rattle.skopeo_words.specs.Made.{flag_of, choice_of, lanes_of, format_of, end_in, count_of, common_of, passing_of, made}
use Rattle.skopeo_words.specs.Pairs.{is_yes, is_on, bad_number, pair_fault}
use Rattle.skopeo_words.specs.Parts.{Part, given}
use Rattle.skopeo_words.specs.Table.{kind_of}
use Rattle.skopeo_words.specs.Values.{truth_value, number_upto, format_value, end_value, without_slashes, is_value}
use Rattle.skopeo_words.specs.declared.command.Command.{Command}
use Rattle.skopeo_words.specs.declared.command.Command.TheVariants as command
use Rattle.skopeo_words.specs.declared.command.CommandName.{CommandName}
use Rattle.skopeo_words.specs.declared.command.CommandName.TheVariants.{Copy, Sync, Inspect, ListTags, Delete, MakeImages}
use Rattle.skopeo_words.specs.declared.command.Common.{Common}
use Rattle.skopeo_words.specs.declared.command.Passing.{Passing}
use Rattle.skopeo_words.specs.declared.command.SyncEnd.{SyncEnd}
use Rattle.skopeo_words.specs.declared.command.SyncEnd.TheVariants.{Docker}
use Rattle.skopeo_words.specs.declared.fault.WordsFault.TheVariants.{At}
use Rattle.skopeo_words.specs.declared.fault.WordsKind.TheVariants as kind_of_fault
use Rattle.skopeo_words.specs.declared.table.Kind.{Kind}
use Rattle.skopeo_words.specs.declared.table.Kind.TheVariants as kind
use Rattle.skopeo_words.specs.declared.table.OptionName.{OptionName}
use Rattle.skopeo_words.specs.declared.table.OptionName.TheVariants as option
use Rattle.skopeo_words.proofs.FoundLaw.{IsLastOr, found, none_of, is_last, middle}
use Rattle.skopeo_words.proofs.TableLaw.{takes_kind}

-- ---- one field

given_is : {A : Type 0} (read : List ℕ → Option A) (name : OptionName) (parts : List Part) (x : Option A) → IsGiven read name parts x → option_and_then read (text_of name parts) ≡ x
given_is read name parts None none = rw (none_of name parts none) refl
given_is read name parts (Some x) h = rw (is_last name parts h.value h.last) h.says

or_is : {A : Type 0} (read : List ℕ → Option A) (other : A) (name : OptionName) (parts : List Part) (x : A) → IsOr read other name parts x → unwrap_or (option_and_then read (text_of name parts)) other ≡ x
or_is read other name parts x (inl h) = rw (is_last name parts h.value h.last, h.says) refl
or_is read other name parts x (inr (none, same)) = rw (none_of name parts none) (sym same)

-- each last value of the option is read
abbrev Reads : {A : Type 0} → (List ℕ → Option A) → OptionName → List Part → Type 0
Reads read name parts = (value : Placed) → IsLast name parts value → IsSome (read value.text)

said : {A : Type 0} (read : List ℕ → Option A) (name : OptionName) (parts : List Part) (value : Placed) (o : Option A) → read value.text ≡ o → IsSome o → IsLast name parts value → IsGiven read name parts o
said read name parts value (Some x) e some last = record { value = value; last = last; says = e }
said read name parts value None e some last = absurd (cc some)

by_last : {A : Type 0} (read : List ℕ → Option A) (name : OptionName) (parts : List Part) (o : Option Placed) → Reads read name parts → IsLastOr name parts o → IsGiven read name parts (option_and_then read (option_map (λ p. p.text) o))
by_last read name parts None reads none = none
by_last read name parts (Some value) reads last = said read name parts value (read value.text) refl (reads value last) last

given_by : {A : Type 0} (read : List ℕ → Option A) (name : OptionName) (parts : List Part) → Reads read name parts → IsGiven read name parts (option_and_then read (text_of name parts))
given_by read name parts reads = by_last read name parts (last_of name parts) reads (found name parts)

or_by : {A : Type 0} (read : List ℕ → Option A) (other : A) (name : OptionName) (parts : List Part) (o : Option A) → IsGiven read name parts o → IsOr read other name parts (unwrap_or o other)
or_by read other name parts None none = inr (none, refl)
or_by read other name parts (Some x) says = inl says

-- a value that counts is one that the option takes
kind_reads : (k : Kind) (name : OptionName) (parts : List Part) → kind_of name ≡ k → All IsGood parts → (value : Placed) → IsLast name parts value → is_value k value.text ≡ true
kind_reads k name parts same good value last =
    let all = subst (All IsGood) last.joined good in
    subst (λ x. is_value x value.text ≡ true) same (takes_kind name value.text (middle IsGood last.before (given value.at name value.text) last.after all))

-- ---- by what the option takes

as_is : (o : Option (List ℕ)) → option_and_then as_written o ≡ o
as_is None = refl
as_is (Some text) = refl

text_is : (name : OptionName) (parts : List Part) (x : Option (List ℕ)) → IsText name parts x → text_of name parts ≡ x
text_is name parts x h = sym (as_is (text_of name parts)) ∙ given_is as_written name parts x h

text_by : (name : OptionName) (parts : List Part) → IsText name parts (text_of name parts)
text_by name parts = subst (IsText name parts) (as_is (text_of name parts)) (given_by as_written name parts (λ value last. refl))

yes_same : (choice : Option Bool) → is_yes choice ≡ unwrap_or choice false
yes_same None = refl
yes_same (Some b) = refl

pub on_same : (o : Option Placed) → is_on o ≡ unwrap_or (option_and_then truth_value (option_map (λ p. p.text) o)) false
on_same None = refl
on_same (Some value) = yes_same (truth_value value.text)

pub flag_is : (name : OptionName) (parts : List Part) (b : Bool) → IsFlag name parts b → flag_of name parts ≡ b
flag_is name parts b h = on_same (last_of name parts) ∙ or_is truth_value false name parts b h

pub flag_by : (name : OptionName) (parts : List Part) → kind_of name ≡ kind.Truth → All IsGood parts → IsFlag name parts (flag_of name parts)
flag_by name parts k good =
    subst (IsFlag name parts) (sym (on_same (last_of name parts)))
    (or_by truth_value false name parts (choice_of name parts) (given_by truth_value name parts (kind_reads kind.Truth name parts k good)))

choice_by : (name : OptionName) (parts : List Part) → kind_of name ≡ kind.Truth → All IsGood parts → IsChoice name parts (choice_of name parts)
choice_by name parts k good = given_by truth_value name parts (kind_reads kind.Truth name parts k good)

base_is : (o : Option (List ℕ)) → option_and_then base_value o ≡ option_map without_slashes o
base_is None = refl
base_is (Some text) = refl

end_from : (name : OptionName) (parts : List Part) (value : Placed) (o : Option SyncEnd) → end_value value.text ≡ o → IsSome o → IsLast name parts value → Says end_value name parts (unwrap_or o Docker)
end_from name parts value (Some x) e some last = record { value = value; last = last; says = e }
end_from name parts value None e some last = absurd (cc some)

end_by : (name : OptionName) (parts : List Part) → kind_of name ≡ kind.End → All IsGood parts → IsThere name parts → Says end_value name parts (end_in name parts)
end_by name parts k good (value, last) =
    rw (is_last name parts value last)
    (end_from name parts value (end_value value.text) refl (kind_reads kind.End name parts k good value last) last)

pub end_is : (name : OptionName) (parts : List Part) (x : SyncEnd) → Says end_value name parts x → end_in name parts ≡ x
end_is name parts x h = rw (is_last name parts h.value h.last, h.says) refl

-- ---- the options that commands share

pub common_by : (parts : List Part) → All IsGood parts → AreCommon parts (common_of parts)
unfolding kind_of
common_by parts good = record {
  policy = text_by option.Policy parts;
  registries_conf = text_by option.RegistriesConf parts;
  location_cache = text_by option.LocationCache parts;
  insecure_policy = flag_by option.InsecurePolicy parts refl good;
  os = text_by option.OverrideOs parts;
  arch = text_by option.OverrideArch parts;
  variant = text_by option.OverrideVariant parts;
  lanes = or_by (number_upto 16) 6 option.Lanes parts (option_and_then (number_upto 16) (text_of option.Lanes parts))
      (given_by (number_upto 16) option.Lanes parts (kind_reads kind.Lanes option.Lanes parts refl good));
}

pub common_is : (parts : List Part) (c : Common) → AreCommon parts c → c ≡ common_of parts
common_is parts c h =
    let policy = text_is option.Policy parts c.policy h.policy in
    let registries_conf = text_is option.RegistriesConf parts c.registries_conf h.registries_conf in
    let location_cache = text_is option.LocationCache parts c.location_cache h.location_cache in
    let insecure_policy = flag_is option.InsecurePolicy parts c.insecure_policy h.insecure_policy in
    let os = text_is option.OverrideOs parts c.os h.os in
    let arch = text_is option.OverrideArch parts c.arch h.arch in
    let variant = text_is option.OverrideVariant parts c.variant h.variant in
    let lanes : lanes_of parts ≡ c.lanes = or_is (number_upto 16) 6 option.Lanes parts c.lanes h.lanes in
    λ i. record {
      policy = sym policy i;
      registries_conf = sym registries_conf i;
      location_cache = sym location_cache i;
      insecure_policy = sym insecure_policy i;
      os = sym os i;
      arch = sym arch i;
      variant = sym variant i;
      lanes = sym lanes i;
    }

pub passing_by : (parts : List Part) → All IsGood parts → ArePassing parts (passing_of parts)
unfolding kind_of
passing_by parts good = record {
  all = flag_by option.All parts refl good;
  preserve = flag_by option.PreserveDigests parts refl good;
  remove_signatures = flag_by option.RemoveSignatures parts refl good;
  format = given_by format_value option.Format parts (kind_reads kind.Format option.Format parts refl good);
  src_tls = choice_by option.SrcTlsVerify parts refl good;
  dest_tls = choice_by option.DestTlsVerify parts refl good;
  lookaside = subst (IsGiven base_value option.Lookaside parts) (base_is (text_of option.Lookaside parts))
      (given_by base_value option.Lookaside parts (λ value last. refl));
  verifier = text_by option.Verifier parts;
}

pub passing_is : (parts : List Part) (p : Passing) → ArePassing parts p → p ≡ passing_of parts
passing_is parts p h =
    let all = flag_is option.All parts p.all h.all in
    let preserve = flag_is option.PreserveDigests parts p.preserve h.preserve in
    let remove_signatures = flag_is option.RemoveSignatures parts p.remove_signatures h.remove_signatures in
    let format : format_of parts ≡ p.format = given_is format_value option.Format parts p.format h.format in
    let src_tls : choice_of option.SrcTlsVerify parts ≡ p.src_tls = given_is truth_value option.SrcTlsVerify parts p.src_tls h.src_tls in
    let dest_tls : choice_of option.DestTlsVerify parts ≡ p.dest_tls = given_is truth_value option.DestTlsVerify parts p.dest_tls h.dest_tls in
    let lookaside : option_map without_slashes (text_of option.Lookaside parts) ≡ p.lookaside =
    sym (base_is (text_of option.Lookaside parts)) ∙ given_is base_value option.Lookaside parts p.lookaside h.lookaside in
    let verifier = text_is option.Verifier parts p.verifier h.verifier in
    λ i. record {
      all = sym all i;
      preserve = sym preserve i;
      remove_signatures = sym remove_signatures i;
      format = sym format i;
      src_tls = sym src_tls i;
      dest_tls = sym dest_tls i;
      lookaside = sym lookaside i;
      verifier = sym verifier i;
    }

-- ---- operands

record AreTwo (operands : List Placed) (a b : List ℕ) : Type 0 where
  first : a ≡ first_text operands
  second : b ≡ second_text operands
  count : length operands ≡ 2

two_texts : (operands : List Placed) (a b : List ℕ) → HaveTexts operands (a ∷ b ∷ []) → AreTwo operands a b
two_texts [] a b h = absurd (cc h)
two_texts (x ∷ []) a b h = absurd (cc h)
two_texts (x ∷ y ∷ []) a b h = record { first = cc h; second = cc h; count = refl }
two_texts (x ∷ y ∷ z ∷ more) a b h = absurd (cc h)

texts_two : (operands : List Placed) → length operands ≡ 2 → HaveTexts operands (first_text operands ∷ second_text operands ∷ [])
texts_two [] h = absurd (omega (arith, h))
texts_two (x ∷ []) h = absurd (omega (arith, h))
texts_two (x ∷ y ∷ []) h = refl
texts_two (x ∷ y ∷ z ∷ more) h = absurd (omega (arith, h))

record IsOne (operands : List Placed) (a : List ℕ) : Type 0 where
  first : a ≡ first_text operands
  count : length operands ≡ 1

one_text : (operands : List Placed) (a : List ℕ) → HaveTexts operands (a ∷ []) → IsOne operands a
one_text [] a h = absurd (cc h)
one_text (x ∷ []) a h = record { first = cc h; count = refl }
one_text (x ∷ y ∷ more) a h = absurd (cc h)

texts_one : (operands : List Placed) → length operands ≡ 1 → HaveTexts operands (first_text operands ∷ [])
texts_one [] h = absurd (omega (arith, h))
texts_one (x ∷ []) h = refl
texts_one (x ∷ y ∷ more) h = absurd (omega (arith, h))

counted : (operand : Placed) (more : List Placed) (o : Option ℕ) → number_upto 1000 operand.text ≡ o → bad_number (operand ∷ more) ≡ None → o ≡ Some (unwrap_or o 0)
counted operand more (Some n) e h = refl
counted operand more None e h = absurd (let bad : Some (At operand.at kind_of_fault.BadNumber) ≡ None = rw e at h in cc bad)

is_number : (operands : List Placed) → length operands ≡ 2 → bad_number operands ≡ None → number_upto 1000 (first_text operands) ≡ Some (count_of (first_text operands))
is_number [] two h = absurd (omega (arith, two))
is_number (operand ∷ more) two h = counted operand more (number_upto 1000 operand.text) refl h

numbered : (operands : List Placed) → length operands ≡ 2 → bad_number operands ≡ None → AreNumbered operands (count_of (first_text operands)) (second_text operands)
numbered operands two h = record {
  number = first_text operands;
  texts = texts_two operands two;
  counts = is_number operands two h;
}

-- ---- the command

pub fields_by : (name : CommandName) (parts : List Part) (operands : List Placed) → All IsGood parts → length operands ≡ wanted name → HasEnds name parts → pair_fault name parts operands ≡ None → HasFields name parts operands (made name parts operands)
unfolding made kind_of
fields_by Copy parts operands good count ends fits =
    record {
      is_common = common_by parts good;
      is_passing = passing_by parts good;
      is_quiet = flag_by option.Quiet parts refl good;
      is_short = flag_by option.ShortNames parts refl good;
      texts = texts_two operands count;
    }
fields_by Sync parts operands good count ends fits =
    (common_by parts good, passing_by parts good, flag_by option.Scoped parts refl good, end_by option.Src parts refl good ends.0, end_by option.Dest parts refl good ends.1, texts_two operands count)
fields_by Inspect parts operands good count ends fits =
    (common_by parts good, flag_by option.ShortNames parts refl good, flag_by option.Raw parts refl good, flag_by option.Config parts refl good, flag_by option.NoTags parts refl good, choice_by option.TlsVerify parts refl good, texts_one operands count)
fields_by ListTags parts operands good count ends fits =
    (common_by parts good, choice_by option.TlsVerify parts refl good, texts_one operands count)
fields_by Delete parts operands good count ends fits =
    (common_by parts good, choice_by option.TlsVerify parts refl good, texts_one operands count)
fields_by MakeImages parts operands good count ends fits =
    (common_by parts good, text_by option.Verifier parts, numbered operands count fits)

counts : (text : List ℕ) (n : ℕ) → number_upto 1000 text ≡ Some n → count_of text ≡ n
counts text n h = rw h refl

pub fields_made : (name : CommandName) (parts : List Part) (operands : List Placed) (c : Command) → HasFields name parts operands c → c ≡ made name parts operands
unfolding made
fields_made Copy parts operands (command.Copy common passing quiet short_names source dest) h =
    let c = common_is parts common h.is_common in
    let p = passing_is parts passing h.is_passing in
    let q = flag_is option.Quiet parts quiet h.is_quiet in
    let s = flag_is option.ShortNames parts short_names h.is_short in
    let t = two_texts operands source dest h.texts in
    λ i. command.Copy (c i) (p i) (sym q i) (sym s i) (t.first i) (t.second i)
fields_made Sync parts operands (command.Sync common passing scoped from to source base) (hc, hp, hs, hf, ho, ht) =
    let c = common_is parts common hc in
    let p = passing_is parts passing hp in
    let s = flag_is option.Scoped parts scoped hs in
    let f = end_is option.Src parts from hf in
    let o = end_is option.Dest parts to ho in
    let t = two_texts operands source base ht in
    λ i. command.Sync (c i) (p i) (sym s i) (sym f i) (sym o i) (t.first i) (t.second i)
fields_made Inspect parts operands (command.Inspect common short_names raw config no_tags tls image) (hc, hs, hr, hf, hn, hv, ht) =
    let c = common_is parts common hc in
    let s = flag_is option.ShortNames parts short_names hs in
    let r = flag_is option.Raw parts raw hr in
    let f = flag_is option.Config parts config hf in
    let n = flag_is option.NoTags parts no_tags hn in
    let v : choice_of option.TlsVerify parts ≡ tls = given_is truth_value option.TlsVerify parts tls hv in
    let t = one_text operands image ht in
    λ i. command.Inspect (c i) (sym s i) (sym r i) (sym f i) (sym n i) (sym v i) (t.first i)
fields_made ListTags parts operands (command.ListTags common tls repository) (hc, hv, ht) =
    let c = common_is parts common hc in
    let v : choice_of option.TlsVerify parts ≡ tls = given_is truth_value option.TlsVerify parts tls hv in
    let t = one_text operands repository ht in
    λ i. command.ListTags (c i) (sym v i) (t.first i)
fields_made Delete parts operands (command.Delete common tls image) (hc, hv, ht) =
    let c = common_is parts common hc in
    let v : choice_of option.TlsVerify parts ≡ tls = given_is truth_value option.TlsVerify parts tls hv in
    let t = one_text operands image ht in
    λ i. command.Delete (c i) (sym v i) (t.first i)
fields_made MakeImages parts operands (command.MakeImages common verifier count base) (hc, hv, hn) =
    let c = common_is parts common hc in
    let v = text_is option.Verifier parts verifier hv in
    let t = two_texts operands hn.number base hn.texts in
    let n : count_of (first_text operands) ≡ count = ap count_of (sym t.first) ∙ counts hn.number count hn.counts in
    λ i. command.MakeImages (c i) (sym v i) (sym n i) (t.second i)
fields_made _ parts operands _ h = absurd h

pub fields_count : (name : CommandName) (parts : List Part) (operands : List Placed) (c : Command) → HasFields name parts operands c → length operands ≡ wanted name
fields_count Copy parts operands (command.Copy common passing quiet short_names source dest) h = (two_texts operands source dest h.texts).count
fields_count Sync parts operands (command.Sync common passing scoped from to source base) h = (two_texts operands source base h.5).count
fields_count Inspect parts operands (command.Inspect common short_names raw config no_tags tls image) h = (one_text operands image h.6).count
fields_count ListTags parts operands (command.ListTags common tls repository) h = (one_text operands repository h.2).count
fields_count Delete parts operands (command.Delete common tls image) h = (one_text operands image h.2).count
fields_count MakeImages parts operands (command.MakeImages common verifier count base) h = (two_texts operands h.2.number base h.2.texts).count
fields_count _ parts operands _ h = absurd h

pub fields_ends : (name : CommandName) (parts : List Part) (operands : List Placed) (c : Command) → HasFields name parts operands c → HasEnds name parts
fields_ends Sync parts operands (command.Sync common passing scoped from to source base) h =
    ((h.3.value, h.3.last), (h.4.value, h.4.last))
fields_ends Sync parts operands _ h = absurd h
fields_ends Copy parts operands c h = tt
fields_ends Inspect parts operands c h = tt
fields_ends ListTags parts operands c h = tt
fields_ends Delete parts operands c h = tt
fields_ends MakeImages parts operands c h = tt

-- The form of a word, as it is read, is what the table says of it.
use Rattle.std.proofs.Common.{◌≡◌, ◌⊎◌, ℕ, List, [], ◌∷◌, ◌++◌, ◌==◌, length, cond, true, false, Option, Some, None, refl, sym, ap, subst, ◌∙◌, arith, inl, inr, codes}
use Rattle.std.specs.Prelude.{Contains, ◌≢◌}
use Rattle.std.specs.Str.{bytes_eq}
use Rattle.std.proofs.lemmas.Bool.{cases_Bool, eqb-true, eq-eqb, lt-ltb}
use Rattle.image_ref.specs.Cuts.{Cut, cut_at}
use Rattle.image_ref.specs.Domain.{after}
use Rattle.image_ref.proofs.CutLemmas.{cut_at-glued}
use Rattle.skopeo_words.specs.Forms.{Form, operand, end_mark, no_option, gives, takes, form_of_kind, bare_form, long_form, short_named, cut_form, form_of}
use Rattle.skopeo_words.specs.Line.{IsRowOf, IsBare, IsWith, HasValue, TakesNext, IsDashed, IsNoOption}
use Rattle.skopeo_words.specs.Table.{Row, options, option_named, kind_of}
use Rattle.skopeo_words.specs.declared.table.Kind.{Kind}
use Rattle.skopeo_words.specs.declared.table.Kind.TheVariants as kind
use Rattle.skopeo_words.specs.declared.table.OptionName.{OptionName}
use Rattle.skopeo_words.specs.declared.table.OptionName.TheVariants as option
use Rattle.skopeo_words.proofs.FoundLaw.{same_text}
use Rattle.skopeo_words.proofs.TableLaw.{kind_is, bare_is, with_is, row_for, option_row}

-- ---- letters

-- the option that a word stands for, as a form
abbrev IsPlainOf : List ℕ → OptionName → Type 0
IsPlainOf word name = form_of word ≡ form_of_kind name (kind_of name)

letter : (word literal : List ℕ) (n name : OptionName) (next : Option OptionName) → IsPlainOf literal n → (next ≡ Some name → IsPlainOf word name) → cond (bytes_eq word literal) (Some n) next ≡ Some name → IsPlainOf word name
letter word literal n name next known later h =
    elim (cases_Bool (bytes_eq word literal)) [
      | inl same ↦
          let e : Some n ≡ Some name = rw same at h in
          let is : n ≡ name = cc e in
          subst (IsPlainOf word) is (subst (λ w. IsPlainOf w n) (sym (same_text word literal same)) known)
      | inr other ↦ later (rw other at h)
    ]

short_form : (word : List ℕ) (name : OptionName) → short_named word ≡ Some name → IsPlainOf word name
unfolding form_of
short_form word name h =
    letter word (codes "-a") option.All name _ refl
    (letter word (codes "-q") option.Quiet name _ refl
    (letter word (codes "-n") option.NoTags name _ refl
    (letter word (codes "-f") option.Format name _ refl
    (letter word (codes "-s") option.Src name _ refl
    (letter word (codes "-d") option.Dest name None refl (λ none. absurd (let e : None ≡ Some name = none in cc e))))))) h

-- ---- what the table says is read

pub bare_form_of : (word : List ℕ) (r : Row) → Contains options r → IsBare word r → form_of word ≡ form_of_kind r.name r.kind
bare_form_of word r there (inl same) = subst (λ w. form_of w ≡ form_of_kind r.name r.kind) (sym same) (bare_is r there)
bare_form_of word r there (inr short) = short_form word r.name short ∙ ap (form_of_kind r.name) (kind_is r there)

pub with_form_of : (word : List ℕ) (r : Row) (value : List ℕ) → Contains options r → IsWith word r value → form_of word ≡ gives r.name value
with_form_of word r value there same = subst (λ w. form_of w ≡ gives r.name value) (sym same) (with_is r there value)

taking : (name : OptionName) (k : Kind) → k ≢ kind.Truth → form_of_kind name k ≡ takes name
taking name kind.Truth h = absurd (h refl)
taking name kind.Text h = refl
taking name kind.Lanes h = refl
taking name kind.Format h = refl
taking name kind.Base h = refl
taking name kind.End h = refl

pub value_form : (word : List ℕ) (name : OptionName) (value : List ℕ) → HasValue word name value → form_of word ≡ gives name value
value_form word name value h = by h.has
  where
    named : form_of word ≡ gives h.entry.name value → form_of word ≡ gives name value
    named e = e ∙ ap (λ n. gives n value) h.of_name.same

    by : IsWith word h.entry value ⊎ (IsBare word h.entry × (h.entry.kind ≡ kind.Truth) × (value ≡ codes "true")) → form_of word ≡ gives name value
    by (inl whole) = named (with_form_of word h.entry value h.of_name.there whole)
    by (inr (bare, truth, true_text)) =
        named (bare_form_of word h.entry h.of_name.there bare ∙ ap (form_of_kind h.entry.name) truth ∙ ap (gives h.entry.name) (sym true_text))

pub takes_form : (word : List ℕ) (name : OptionName) → TakesNext word name → form_of word ≡ takes name
takes_form word name h =
    bare_form_of word h.entry h.of_name.there h.bare ∙ taking h.entry.name h.entry.kind h.no_truth ∙ ap takes h.of_name.same

pub mark_form : (word : List ℕ) → word ≡ codes "--" → form_of word ≡ end_mark
unfolding form_of
mark_form word same = subst (λ w. form_of w ≡ end_mark) (sym same) refl

-- ---- what is read is what the table says

-- what the table says of a word of a form
abbrev pub IsForm : List ℕ → Form → Type 0
IsForm word operand = IsDashed word → ⊥
IsForm word end_mark = word ≡ codes "--"
IsForm word no_option = IsNoOption word
IsForm word (gives name value) = HasValue word name value
IsForm word (takes name) = TakesNext word name

plain_is : (word : List ℕ) (name : OptionName) (r : Row) → IsRowOf r name → IsBare word r → IsForm word (form_of_kind name (kind_of name))
plain_is word name r of_name bare =
    let same : kind_of name ≡ r.kind = ap kind_of (sym of_name.same) ∙ kind_is r of_name.there in
    subst (λ k. IsForm word (form_of_kind name k)) (sym same) (by r.kind refl)
  where
    next : (r.kind ≢ kind.Truth) → TakesNext word name
    next no_truth = record { entry = r; of_name = of_name; bare = bare; no_truth = no_truth }

    by : (k : Kind) → r.kind ≡ k → IsForm word (form_of_kind name k)
    by kind.Truth e = record { entry = r; of_name = of_name; has = inr (bare, e, refl) }
    by kind.Text e = next (λ t. let bad : kind.Text ≡ kind.Truth = sym e ∙ t in cc bad)
    by kind.Lanes e = next (λ t. let bad : kind.Lanes ≡ kind.Truth = sym e ∙ t in cc bad)
    by kind.Format e = next (λ t. let bad : kind.Format ≡ kind.Truth = sym e ∙ t in cc bad)
    by kind.Base e = next (λ t. let bad : kind.Base ≡ kind.Truth = sym e ∙ t in cc bad)
    by kind.End e = next (λ t. let bad : kind.End ≡ kind.Truth = sym e ∙ t in cc bad)

never_none : (name : OptionName) (k : Kind) → form_of_kind name k ≡ no_option → ⊥
never_none name kind.Truth h = cc h
never_none name kind.Text h = cc h
never_none name kind.Lanes h = cc h
never_none name kind.Format h = cc h
never_none name kind.Base h = cc h
never_none name kind.End h = cc h

none_is : (word : List ℕ) → IsDashed word → word ≢ codes "--" → form_of word ≡ no_option → IsNoOption word
none_is word dashed no_mark h = record {
  dashed = dashed;
  no_mark = no_mark;
  not_bare = λ r there bare. never_none r.name r.kind (sym (bare_form_of word r there bare) ∙ h);
  not_with = λ r value there whole. (let bad : gives r.name value ≡ no_option = sym (with_form_of word r value there whole) ∙ h in cc bad);
}

-- a word of two bytes or more that begins with a dash
dashed_word : (c : ℕ) (more : List ℕ) → IsDashed (45 ∷ c ∷ more)
dashed_word c more = (refl, λ e. cc e)

abbrev Sound : List ℕ → Form → Type 0
Sound word form = form_of word ≡ form → IsForm word form

long_sound : (text : List ℕ) (cut : Cut) (o : Option OptionName) → IsDashed (45 ∷ 45 ∷ text) → (45 ∷ 45 ∷ text) ≢ codes "--" → text ≡ cut.0 ++ after 61 cut.1 → option_named cut.0 ≡ o → Sound (45 ∷ 45 ∷ text) (long_form o cut.1)
long_sound text cut None dashed no_mark glued e h = none_is (45 ∷ 45 ∷ text) dashed no_mark h
long_sound text (before, None) (Some name) dashed no_mark glued e h =
    let found = option_row before name e in
    let same : 45 ∷ 45 ∷ text ≡ codes "--" ++ found.0.text = ap (λ (t : List ℕ). 45 ∷ 45 ∷ t) (glued ∙ append_none before ∙ sym found.2) in
    plain_is (45 ∷ 45 ∷ text) name found.0 (record { there = found.1; same = found.3 }) (inl same)
  where
    append_none : (t : List ℕ) → t ++ [] ≡ t
    append_none [] = refl
    append_none (b ∷ rest) = ap (λ (l : List ℕ). b ∷ l) (append_none rest)
long_sound text (before, Some value) (Some name) dashed no_mark glued e h =
    let found = option_row before name e in
    record {
      entry = found.0;
      of_name = record { there = found.1; same = found.3 };
      has = inl (ap (λ (t : List ℕ). 45 ∷ 45 ∷ t) (glued ∙ ap (λ (t : List ℕ). t ++ (61 ∷ value)) (sym found.2)));
    }

short_sound : (word : List ℕ) (o : Option OptionName) → IsDashed word → word ≢ codes "--" → short_named word ≡ o → Sound word (bare_form o)
short_sound word None dashed no_mark e h = none_is word dashed no_mark h
short_sound word (Some name) dashed no_mark e h =
    let found = row_for name in
    plain_is word name found.0 found.1 (inr (e ∙ ap Some (sym found.1.same)))

-- the form of a word that begins with two dashes and goes on
long_is : (d : ℕ) (more : List ℕ) → form_of (45 ∷ 45 ∷ d ∷ more) ≡ cut_form (cut_at 61 (d ∷ more))
unfolding form_of
long_is d more = refl

-- the form of a word that begins with one dash and goes on
short_is : (c : ℕ) (more : List ℕ) → (c == 45) ≡ false → form_of (45 ∷ c ∷ more) ≡ bare_form (short_named (45 ∷ c ∷ more))
unfolding form_of
short_is c more other = rw (other, lt-ltb 1 (length (45 ∷ c ∷ more)) (omega arith)) refl

plain_form : (b : ℕ) (rest : List ℕ) → (b == 45) ≡ false → form_of (b ∷ rest) ≡ operand
unfolding form_of
plain_form b rest other = rw other refl

dash_form : form_of (45 ∷ []) ≡ operand
unfolding form_of
dash_form = refl

empty_form : form_of [] ≡ operand
unfolding form_of
empty_form = refl

by_form : (word : List ℕ) (form : Form) → form_of word ≡ form → Sound word form → IsForm word (form_of word)
by_form word form e sound = subst (IsForm word) (sym e) (sound e)

pub form_is : (word : List ℕ) → IsForm word (form_of word)
form_is [] = by_form [] operand empty_form (λ e d. let bad : [] ≡ 45 ∷ [] = d.0 in cc bad)
form_is (b ∷ rest) =
    elim (cases_Bool (b == 45)) [
      | inr other ↦ by_form (b ∷ rest) operand (plain_form b rest other)
          (λ e d. let same : b ∷ [] ≡ 45 ∷ [] = d.0 in let is : b ≡ 45 = cc same in let bad : true ≡ false = sym (eq-eqb b 45 is) ∙ other in cc bad)
      | inl dash ↦ subst (λ n. IsForm (n ∷ rest) (form_of (n ∷ rest))) (sym (eqb-true b 45 dash)) (dash_is rest)
    ]
  where
    two : (c : ℕ) (more : List ℕ) → (c == 45) ≡ true → IsForm (45 ∷ c ∷ more) (form_of (45 ∷ c ∷ more))
    two c more dash = subst (λ n. IsForm (45 ∷ n ∷ more) (form_of (45 ∷ n ∷ more))) (sym (eqb-true c 45 dash)) (long more)
      where
        long : (more : List ℕ) → IsForm (45 ∷ 45 ∷ more) (form_of (45 ∷ 45 ∷ more))
        long [] = by_form (codes "--") end_mark (mark_form (codes "--") refl) (λ e. refl)
        long (d ∷ more) =
            let cut = cut_at 61 (d ∷ more) in
            by_form (45 ∷ 45 ∷ d ∷ more) (cut_form cut) (long_is d more)
            (long_sound (d ∷ more) cut (option_named cut.0) (dashed_word 45 (d ∷ more)) (λ e. cc e) (cut_at-glued 61 (d ∷ more)) refl)

    dash_is : (rest : List ℕ) → IsForm (45 ∷ rest) (form_of (45 ∷ rest))
    dash_is [] = by_form (45 ∷ []) operand dash_form (λ e d. d.1 refl)
    dash_is (c ∷ more) =
        elim (cases_Bool (c == 45)) [
          | inl dash ↦ two c more dash
          | inr other ↦ by_form (45 ∷ c ∷ more) (bare_form (short_named (45 ∷ c ∷ more))) (short_is c more other)
              (short_sound (45 ∷ c ∷ more) (short_named (45 ∷ c ∷ more)) (dashed_word c more)
              (λ e. let is : c ≡ 45 = cc e in let bad : true ≡ false = sym (eq-eqb c 45 is) ∙ other in cc bad) refl)
        ]

-- ---- a word that is no option, and an operand

pub none_form : (word : List ℕ) → IsNoOption word → form_of word ≡ no_option
none_form word h = by (form_of word) refl (form_is word)
  where
    by : (f : Form) → form_of word ≡ f → IsForm word f → f ≡ no_option
    by operand e is = absurd (is h.dashed)
    by end_mark e is = absurd (h.no_mark is)
    by no_option e is = refl
    by (gives name value) e is = absurd (valued is.has)
      where
        valued : IsWith word is.entry value ⊎ (IsBare word is.entry × (is.entry.kind ≡ kind.Truth) × (value ≡ codes "true")) → ⊥
        valued (inl whole) = h.not_with is.entry value is.of_name.there whole
        valued (inr bare) = h.not_bare is.entry is.of_name.there bare.0
    by (takes name) e is = absurd (h.not_bare is.entry is.of_name.there is.bare)

pub operand_form : (word : List ℕ) → (IsDashed word → ⊥) → form_of word ≡ operand
operand_form [] h = empty_form
operand_form (b ∷ rest) h =
    elim (cases_Bool (b == 45)) [
      | inr other ↦ plain_form b rest other
      | inl dash ↦ alone rest (eqb-true b 45 dash) h
    ]
  where
    alone : (rest : List ℕ) → b ≡ 45 → (IsDashed (b ∷ rest) → ⊥) → form_of (b ∷ rest) ≡ operand
    alone [] same none = subst (λ n. form_of (n ∷ []) ≡ operand) (sym same) dash_form
    alone (c ∷ more) same none = absurd (subst (λ n. IsDashed (n ∷ c ∷ more) → ⊥) same none (dashed_word c more))

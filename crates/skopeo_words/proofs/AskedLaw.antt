-- Help and version: the reading and the relation agree.
use Rattle.std.proofs.Common.{◌≡◌, ℕ, List, [], ◌∷◌, ◌++◌, Option, Some, None, refl, sym, ap, subst, ◌∙◌, inl, inr}
use Rattle.std.specs.List.{All}
use Rattle.std.proofs.lemmas.List.Elements.{All-cons, All-nil, All-head, All-tail}
use Rattle.skopeo_words.specs.Asked.{asks, IsNoOperand, AsksBehind, AsksFor}
use Rattle.skopeo_words.specs.CommandOf.{IsGood}
use Rattle.skopeo_words.specs.Parts.{Part, plain, given, lacking, mark, unknown}
use Rattle.skopeo_words.specs.Reading.{asked_behind, asked_within, asked}
use Rattle.skopeo_words.specs.Table.{command_named}
use Rattle.skopeo_words.specs.declared.command.Command.{Command}
use Rattle.skopeo_words.specs.declared.command.CommandName.{CommandName}
use Rattle.skopeo_words.proofs.FoundLaw.{rest_all}

-- ---- what is read is asked for

behind_asks : (place : ℕ) (first : List ℕ) (more : List Part) (c : Command) (o : Option CommandName) → command_named first ≡ o → asked_behind o more ≡ Some c → AsksBehind (plain place first ∷ more) c
behind_asks place first more c None e h = absurd (cc h)
behind_asks place first (unknown at word ∷ after) c (Some name) e h = record {
  before = [];
  place = place;
  first = first;
  at = at;
  word = word;
  after = after;
  joined = refl;
  none_before = All-nil IsNoOperand;
  name = name;
  named = e;
  asked = h;
}
behind_asks place first [] c (Some name) e h = absurd (cc h)
behind_asks place first (plain at word ∷ after) c (Some name) e h = absurd (cc h)
behind_asks place first (given at option value ∷ after) c (Some name) e h = absurd (cc h)
behind_asks place first (lacking option ∷ after) c (Some name) e h = absurd (cc h)
behind_asks place first (mark ∷ after) c (Some name) e h = absurd (cc h)

carried : (p : Part) (more : List Part) (c : Command) → IsNoOperand p → AsksBehind more c → AsksBehind (p ∷ more) c
carried p more c none h = record {
  before = p ∷ h.before;
  place = h.place;
  first = h.first;
  at = h.at;
  word = h.word;
  after = h.after;
  joined = ap (λ (ps : List Part). p ∷ ps) h.joined;
  none_before = All-cons IsNoOperand p h.before none h.none_before;
  name = h.name;
  named = h.named;
  asked = h.asked;
}

within_asks : (parts : List Part) (c : Command) → asked_within parts ≡ Some c → AsksBehind parts c
within_asks [] c h = absurd (cc h)
within_asks (plain place word ∷ more) c h = behind_asks place word more c (command_named word) refl h
within_asks (given place name value ∷ more) c h = carried (given place name value) more c tt (within_asks more c h)
within_asks (lacking name ∷ more) c h = carried (lacking name) more c tt (within_asks more c h)
within_asks (mark ∷ more) c h = carried mark more c tt (within_asks more c h)
within_asks (unknown place word ∷ more) c h = carried (unknown place word) more c tt (within_asks more c h)

pub asked_for : (parts : List Part) (c : Command) → asked parts ≡ Some c → AsksFor parts c
asked_for (unknown place word ∷ []) c h = inl (record { at = place; word = word; joined = refl; asked = h })
asked_for (unknown place word ∷ p ∷ more) c h = inr (within_asks (unknown place word ∷ p ∷ more) c h)
asked_for [] c h = inr (within_asks [] c h)
asked_for (plain place word ∷ more) c h = inr (within_asks (plain place word ∷ more) c h)
asked_for (given place name value ∷ more) c h = inr (within_asks (given place name value ∷ more) c h)
asked_for (lacking name ∷ more) c h = inr (within_asks (lacking name ∷ more) c h)
asked_for (mark ∷ more) c h = inr (within_asks (mark ∷ more) c h)

-- ---- what is asked for is read

in_front : (before : List Part) (place : ℕ) (first : List ℕ) (at : ℕ) (word : List ℕ) (after : List Part) (name : CommandName) (c : Command) → All IsNoOperand before → command_named first ≡ Some name → asks (Some name) word ≡ Some c → asked_within (before ++ (plain place first ∷ unknown at word ∷ after)) ≡ Some c
in_front [] place first at word after name c none named h = rw named h
in_front (plain p w ∷ before) place first at word after name c none named h = absurd (All-head IsNoOperand (plain p w) before none)
in_front (given p n v ∷ before) place first at word after name c none named h =
    in_front before place first at word after name c (All-tail IsNoOperand (given p n v) before none) named h
in_front (lacking n ∷ before) place first at word after name c none named h =
    in_front before place first at word after name c (All-tail IsNoOperand (lacking n) before none) named h
in_front (mark ∷ before) place first at word after name c none named h =
    in_front before place first at word after name c (All-tail IsNoOperand mark before none) named h
in_front (unknown p w ∷ before) place first at word after name c none named h =
    in_front before place first at word after name c (All-tail IsNoOperand (unknown p w) before none) named h

-- two parts or more
longer : (before : List Part) (p q : Part) (after : List Part) → asked (before ++ (p ∷ q ∷ after)) ≡ asked_within (before ++ (p ∷ q ∷ after))
longer [] (plain place word) q after = refl
longer [] (given place name value) q after = refl
longer [] (lacking name) q after = refl
longer [] mark q after = refl
longer [] (unknown place word) q after = refl
longer (plain place word ∷ before) p q after = refl
longer (given place name value ∷ before) p q after = refl
longer (lacking name ∷ before) p q after = refl
longer (mark ∷ before) p q after = refl
longer (unknown place word ∷ []) p q after = refl
longer (unknown place word ∷ r ∷ before) p q after = refl

pub for_asked : (parts : List Part) (c : Command) → AsksFor parts c → asked parts ≡ Some c
for_asked parts c (inl a) = ap asked a.joined ∙ a.asked
for_asked parts c (inr b) =
    ap asked b.joined ∙ longer b.before (plain b.place b.first) (unknown b.at b.word) b.after
    ∙ in_front b.before b.place b.first b.at b.word b.after b.name c b.none_before b.named b.asked

pub asked_not : (parts : List Part) → asked parts ≡ None → (c : Command) → AsksFor parts c → ⊥
asked_not parts none c h = let e : None ≡ Some c = sym none ∙ for_asked parts c h in cc e

pub not_asked : (parts : List Part) → ((c : Command) → AsksFor parts c → ⊥) → asked parts ≡ None
not_asked parts none = by (asked parts) refl
  where
    by : (o : Option Command) → asked parts ≡ o → asked parts ≡ None
    by None e = e
    by (Some c) e = absurd (none c (asked_for parts c e))

-- parts that are in order ask for neither
pub good_not : (parts : List Part) (c : Command) → All IsGood parts → AsksFor parts c → ⊥
good_not parts c good (inl a) = All-head IsGood (unknown a.at a.word) [] (subst (All IsGood) a.joined good)
good_not parts c good (inr b) =
    let two = rest_all IsGood b.before (plain b.place b.first ∷ unknown b.at b.word ∷ b.after) (subst (All IsGood) b.joined good) in
    All-head IsGood (unknown b.at b.word) b.after (All-tail IsGood (plain b.place b.first) (unknown b.at b.word ∷ b.after) two)

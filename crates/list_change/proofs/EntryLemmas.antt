-- What the code makes of a list is what the rows say it becomes.
use Rattle.std.proofs.Common.{◌≡◌, ◌⊎◌, inl, inr, ℕ, zero, suc, ◌+◌, ◌<◌, cond, Bool, true, false, List, [], ◌∷◌, ◌++◌, length, get_or, Option, Some, None, Result, Ok, Err, refl, sym, ap, ◌∙◌, subst, add-zero, arith}
use Rattle.std.specs.List.{All}
use Rattle.std.specs.Option.{is_none}
use Rattle.std.proofs.lemmas.List.Elements.{All-nil, All-cons}
use Rattle.serde_json.specs.Written.{compact_text}
use Rattle.manifest_v2s2.specs.declared.kind.Kind.{Kind}
use Rattle.manifest_v2s2.specs.declared.kind.Kind.TheVariants.{V2s2, V2s2List, Oci, OciIndex}
use Rattle.manifest_change.specs.declared.fault.ConvertFault.{ConvertFault}
use Rattle.manifest_change.specs.declared.fault.ConvertFault.TheVariants.{Layer, Config, NotAnImage, NoPlatform, Memory}
use Rattle.manifest_change.specs.Rows.{IsManifestRow, Becomes, BecomesNone, BecomesSome}
use Rattle.manifest_change.specs.Found.{manifest_type}
use Rattle.manifest_change.specs.Changed.{Converted, each, IsFault, Answers, ◌>>=◌}
use Rattle.manifest_change.specs.IsChange.{AreEach}
use Rattle.manifest_change.proofs.RowLemmas.{manifests-found, none-found}
use Rattle.manifest_change.proofs.EachLemmas.{then-ok, then-err, fault-then}
use Rattle.manifest_list.specs.Written.{list_data}
use Rattle.manifest_list.specs.declared.platform.Platform.{Platform}
use Rattle.manifest_list.specs.declared.list.ListEntry.{ListEntry}
use Rattle.manifest_list.specs.declared.list.List as listed
use Rattle.list_change.specs.declared.entry.Written.{Written}
use Rattle.list_change.specs.Changed.{paired, entry_with, lacks_platform, entry_by, entry_changed, list_changed, list_converted}
use Rattle.list_change.specs.IsListChange.{Lacks, IsEntryChanged, IsListChange, IsTextOf, IsFit, IsFirstUnfit, IsFirst, ByRows}

-- ---- pairs

pub length-paired : {A B : Type 0} (xs : List A) (ys : List B) → length ys ≡ length xs → length (paired xs ys) ≡ length xs
length-paired [] ys h = refl
length-paired (x ∷ xs) [] h = cc h
length-paired (x ∷ xs) (y ∷ ys) h = let same : length ys ≡ length xs = omega (arith, h) in ap suc (length-paired xs ys same)

pub pair-at : {A B : Type 0} (xs : List A) (ys : List B) (i : ℕ) (x : A) (y : B) → i < length xs → length ys ≡ length xs → x ≡ get_or xs i x → y ≡ get_or ys i y → (x, y) ≡ get_or (paired xs ys) i (x, y)
pair-at [] ys i x y lt h e f = absurd (omega arith)
pair-at (a ∷ xs) [] i x y lt h e f = cc h
pair-at (a ∷ xs) (b ∷ ys) zero x y lt h e f = rw (← e, ← f) refl
pair-at (a ∷ xs) (b ∷ ys) (suc i) x y lt h e f =
    let same : length ys ≡ length xs = omega (arith, h) in
    let less : i < length xs = omega arith in
    pair-at xs ys i x y less same e f

-- ---- one entry

none-is : {A : Type 0} (o : Option A) → is_none o ≡ true → o ≡ None
none-is None h = refl
none-is (Some x) h = cc h

lacks-is : (to : Kind) (e : ListEntry) → lacks_platform to e ≡ true → Lacks to e
lacks-is V2s2 e h = cc h
lacks-is V2s2List e h = (refl, none-is e.platform h)
lacks-is Oci e h = cc h
lacks-is OciIndex e h = cc h

has-one : (to : Kind) (e : ListEntry) → lacks_platform to e ≡ false → Lacks to e → ⊥
has-one to e h l =
    let yes : lacks_platform to e ≡ true = ap (λ k. lacks_platform k e) l.0 ∙ ap is_none l.1 in
    cc (sym h ∙ yes)

made-by : (to : Kind) (n : ℕ) (e : ListEntry) (w : Written) (new : ListEntry) (o : Option (List ℕ)) (lacks : Bool) → manifest_type to e.target.media ≡ o → lacks_platform to e ≡ lacks → entry_by o lacks n e w ≡ Ok new → IsEntryChanged to (e, w) new
made-by to n e w new None lacks f l h = cc h
made-by to n e w new (Some media) true f l h = cc h
made-by to n e w new (Some media) false f l h =
    let same : entry_with media e w ≡ new = cc h in
    let made : IsEntryChanged to (e, w) (entry_with media e w) = record {
      media = manifests-found.sound to e.target.media media f;
      digest = refl;
      size = refl;
      urls = refl;
      annotations = refl;
      platform = refl;
      has_one = has-one to e l;
    } in
    subst (IsEntryChanged to (e, w)) same made

entry-made : (to : Kind) (n : ℕ) (p : ListEntry × Written) (new : ListEntry) → entry_changed to n p ≡ Ok new → IsEntryChanged to p new
entry-made to n p new h = made-by to n p.0 p.1 new (manifest_type to p.0.target.media) (lacks_platform to p.0) refl refl h

-- why an entry of a number is refused
data Why (to : Kind) (n : ℕ) (e : ListEntry) (fault : ConvertFault) : Type 0 where
  no_image : NotAnImage n ≡ fault → BecomesNone IsManifestRow to e.target.media → Why to n e fault
  no_platform : NoPlatform n ≡ fault → BecomesSome IsManifestRow to e.target.media → Lacks to e → Why to n e fault

refused-by : (to : Kind) (n : ℕ) (e : ListEntry) (w : Written) (fault : ConvertFault) (o : Option (List ℕ)) (lacks : Bool) → manifest_type to e.target.media ≡ o → lacks_platform to e ≡ lacks → entry_by o lacks n e w ≡ Err fault → Why to n e fault
refused-by to n e w fault None lacks f l h = no_image (cc h) (none-found IsManifestRow manifest_type manifests-found to e.target.media f)
refused-by to n e w fault (Some media) true f l h = no_platform (cc h) (media, manifests-found.sound to e.target.media media f) (lacks-is to e l)
refused-by to n e w fault (Some media) false f l h = cc h

entry-refused : (to : Kind) (n : ℕ) (p : ListEntry × Written) (fault : ConvertFault) → entry_changed to n p ≡ Err fault → Why to n p.0 fault
entry-refused to n p fault h = refused-by to n p.0 p.1 fault (manifest_type to p.0.target.media) (lacks_platform to p.0) refl refl h

-- ---- the entries

entries-made : (to : Kind) (n : ℕ) (ps : List (ListEntry × Written)) (es : List ListEntry) → each (entry_changed to) n ps ≡ Ok es → AreEach (IsEntryChanged to) ps es
entries-made to n [] [] h = tt
entries-made to n [] (e ∷ es) h = cc h
entries-made to n (p ∷ ps) es h =
    let one = then-ok (entry_changed to n p) _ es h in
    let rest = then-ok (each (entry_changed to) (suc n) ps) _ es one.2 in
    let same : one.0 ∷ rest.0 ≡ es = cc rest.2 in
    let made : AreEach (IsEntryChanged to) (p ∷ ps) (one.0 ∷ rest.0) = (entry-made to n p one.0 one.1, entries-made to (suc n) ps rest.0 rest.1) in
    subst (AreEach (IsEntryChanged to) (p ∷ ps)) same made

record IsFirstFrom (to : Kind) (n : ℕ) (ps : List (ListEntry × Written)) (fault : ConvertFault) : Type 0 where
  before : List (ListEntry × Written)
  entry : ListEntry × Written
  after : List (ListEntry × Written)
  stands : ps ≡ before ++ entry ∷ after
  others : All (IsFit to) before
  why : Why to (n + length before) entry.0 fault

first-refused : (to : Kind) (n : ℕ) (p : ListEntry × Written) (ps : List (ListEntry × Written)) (fault : ConvertFault) → entry_changed to n p ≡ Err fault → IsFirstFrom to n (p ∷ ps) fault
first-refused to n p ps fault here = record {
  before = [];
  entry = p;
  after = ps;
  stands = refl;
  others = All-nil (IsFit to);
  why = subst (λ m. Why to m p.0 fault) (sym (add-zero n)) (entry-refused to n p fault here);
}

later-refused : (to : Kind) (n : ℕ) (p : ListEntry × Written) (ps : List (ListEntry × Written)) (fault : ConvertFault) (e : ListEntry) → entry_changed to n p ≡ Ok e → IsFirstFrom to (suc n) ps fault → IsFirstFrom to n (p ∷ ps) fault
later-refused to n p ps fault e made found =
    let number : suc n + length found.before ≡ n + length (p ∷ found.before) = omega arith in
    let one = entry-made to n p e made in
    let some : BecomesSome IsManifestRow to p.0.target.media = (e.target.media, one.media) in
    let fit : IsFit to p = (some, one.has_one) in
    record {
      before = p ∷ found.before;
      entry = found.entry;
      after = found.after;
      stands = ap (λ ws. p ∷ ws) found.stands;
      others = All-cons (IsFit to) p found.before fit found.others;
      why = subst (λ m. Why to m found.entry.0 fault) number found.why;
    }

entries-refused : (to : Kind) (n : ℕ) (ps : List (ListEntry × Written)) (fault : ConvertFault) → each (entry_changed to) n ps ≡ Err fault → IsFirstFrom to n ps fault
entries-refused to n [] fault h = cc h
entries-refused to n (p ∷ ps) fault h = elim (then-err (entry_changed to n p) _ fault h) [
  | inl here ↦ first-refused to n p ps fault here
  | inr later ↦ elim (then-err (each (entry_changed to) (suc n) ps) _ fault later.2) [
    | inl rest ↦ later-refused to n p ps fault later.0 later.1 (entries-refused to (suc n) ps fault rest)
    | inr ok ↦ cc ok.2
  ]
]

-- ---- the list

list-made : (to : Kind) (old : listed.List) (written : List Written) (new : listed.List) → list_changed to old written ≡ Ok new → IsListChange to old written new
unfolding list_changed
list-made to old written new h =
    let es = then-ok (each (entry_changed to) 1 (paired old.entries written)) _ new h in
    let same : record { kind = to; entries = es.0 } ≡ new = cc es.2 in
    let made : IsListChange to old written (record { kind = to; entries = es.0 }) = record {
      kind = refl;
      entries = entries-made to 1 (paired old.entries written) es.0 es.1;
    } in
    subst (IsListChange to old written) same made

by-why : (to : Kind) (ps : List (ListEntry × Written)) (n : ℕ) (fault : ConvertFault) (before : List (ListEntry × Written)) (entry : ListEntry × Written) (after : List (ListEntry × Written))
    → ps ≡ before ++ entry ∷ after → n ≡ length before + 1 → All (IsFit to) before → Why to n entry.0 fault → IsFirst to ps fault
by-why to ps n fault before entry after stands counted others (no_image is none) =
    let first : IsFirst to ps (NotAnImage n) = record { before = before; entry = entry; after = after; stands = stands; counted = counted; others = others; why = none } in
    subst (IsFirst to ps) is first
by-why to ps n fault before entry after stands counted others (no_platform is some lacks) =
    let first : IsFirst to ps (NoPlatform n) = record { before = before; entry = entry; after = after; stands = stands; counted = counted; others = others; why = (some, lacks) } in
    subst (IsFirst to ps) is first

list-refused : (to : Kind) (old : listed.List) (written : List Written) (fault : ConvertFault) → list_changed to old written ≡ Err fault → IsFirst to (paired old.entries written) fault
unfolding list_changed
list-refused to old written fault h = elim (then-err (each (entry_changed to) 1 (paired old.entries written)) _ fault h) [
  | inl here ↦
      let found = entries-refused to 1 (paired old.entries written) fault here in
      let counted : 1 + length found.before ≡ length found.before + 1 = omega arith in
      by-why to (paired old.entries written) (1 + length found.before) fault found.before found.entry found.after found.stands counted found.others found.why
  | inr ok ↦ cc ok.2
]

pub text-made : (to : Kind) (old : listed.List) (written : List Written) (bytes : List ℕ) → list_converted to old written ≡ Ok bytes → IsTextOf to old written bytes
unfolding list_converted
text-made to old written bytes h =
    let new = then-ok (list_changed to old written) _ bytes h in
    let same : compact_text (list_data new.0) ≡ bytes = cc new.2 in
    record { new = new.0; change = list-made to old written new.0 new.1; text = sym same }

text-refused : (to : Kind) (old : listed.List) (written : List Written) (fault : ConvertFault) → list_converted to old written ≡ Err fault → IsFirst to (paired old.entries written) fault
unfolding list_converted
text-refused to old written fault h = elim (then-err (list_changed to old written) _ fault h) [ inl here ↦ list-refused to old written fault here | inr ok ↦ cc ok.2 ]

-- an answer that is the wanted one is so by the rows
pub by-rows : (to : Kind) (old : listed.List) (written : List Written) (r : Result (List ℕ) ConvertFault) → Answers r (list_converted to old written) → ByRows to old written r
by-rows to old written (Ok bytes) h = text-made to old written bytes h
by-rows to old written (Err (Layer place media)) h = text-refused to old written (Layer place media) h
by-rows to old written (Err (Config media)) h = text-refused to old written (Config media) h
by-rows to old written (Err (NotAnImage place)) h = text-refused to old written (NotAnImage place) h
by-rows to old written (Err (NoPlatform place)) h = text-refused to old written (NoPlatform place) h
by-rows to old written (Err Memory) h = tt

-- the text that was written of the changed list is the wanted one
pub text-answers : (to : Kind) (old new : listed.List) (written : List Written) (bytes : List ℕ) → list_changed to old written ≡ Ok new → bytes ≡ compact_text (list_data new) → list_converted to old written ≡ Ok bytes
unfolding list_converted
text-answers to old new written bytes h e = rw h (ap Ok (sym e))

pub fault-answers : (to : Kind) (old : listed.List) (written : List Written) (fault : ConvertFault) → IsFault fault (list_changed to old written) → IsFault fault (list_converted to old written)
unfolding list_converted
fault-answers to old written fault h = fault-then (list_changed to old written) _ fault h

-- What bytes alone decide, as answers of calls on files.
use Rattle.std.proofs.Common.{◌≡◌, ◌≤◌, ◌∙◌, ◌==◌, length, option_map, List, ℕ, Option, Some, None, Result, Ok, Err, true, false, IfSome, ◌⊎◌, inl, inr, refl, sym, ap, subst}
use Rattle.std.specs.Prelude.{IfErr, IfOk, ⊤}
use Rattle.skopeo_outside.specs.Tree.{Tree, file_at}
use Rattle.skopeo_outside.specs.declared.stop.Stop.{Stop}
use Rattle.skopeo_outside.specs.declared.stop.Stop.TheVariants as stop
use Rattle.layouts.specs.declared.fault.LayoutFault.{LayoutFault}
use Rattle.layouts.specs.declared.fault.LayoutFault.TheVariants as fault
use Rattle.layouts.specs.declared.read.Limited.{Limited}
use Rattle.layouts.specs.Bounds.{limited}
use Rattle.layouts.specs.Faults.{by_stop, is_free, Answers, LayoutCause, StopsFreely}
use Rattle.json_tree.specs.Checked.{Checked}
use Rattle.manifest_v2s2.specs.Calls.{IsFaultOf}
use Rattle.manifest_v2s2.specs.declared.descriptor.Descriptor.{Descriptor}
use Rattle.manifest_v2s2.specs.declared.fault.ManifestFault.TheVariants.{Member}
use Rattle.oci_index.specs.declared.choice.ChoiceFault.{ChoiceFault}
use Rattle.oci_index.specs.declared.choice.ChoiceFault.TheVariants as choice
use Rattle.oci_layout.specs.Source.{followed, told, by_name, Tells, Finds, is_of_bytes, is_of_oci, is_sized}

-- a stopped call of the files is a fault that a layout may have
pub oci_stop : (s : Stop) → is_of_oci (by_stop s) ≡ true
oci_stop stop.Fault = refl
oci_stop stop.Memory = refl

bytes_oci : (e : LayoutFault) → is_of_bytes e ≡ true → is_of_oci e ≡ true
bytes_oci fault.NotAnImageDir h = h
bytes_oci (fault.LayoutInvalid member) h = refl
bytes_oci fault.RefAbsent h = refl
bytes_oci (fault.RefAmbiguous count) h = refl
bytes_oci (fault.Digest expected found) h = refl
bytes_oci (fault.TooLarge what most) h = refl
bytes_oci fault.Files h = refl
bytes_oci fault.Memory h = refl

-- what bytes decide is of a layout
pub found_oci : {A : Type 0} (wanted r : Result A LayoutFault) → Finds wanted r → IfErr r (λ e. is_of_oci e ≡ true)
found_oci wanted (Ok x) h = h.of_bytes
found_oci wanted (Err e) h = bytes_oci e h.of_bytes

-- and is no fault of the files
not_files : (e : LayoutFault) → is_of_bytes e ≡ true → e ≡ fault.Files → ⊥
not_files e h k = let no : false ≡ true = sym (ap is_of_bytes k) ∙ h in cc

pub found_cause : {A : Type 0} (wanted r : Result A LayoutFault) (before now : ℕ) → before ≤ now → Finds wanted r → LayoutCause before now r
found_cause wanted (Ok x) before now le h = record { later = le; fault = λ k. cc k }
found_cause wanted (Err e) before now le h =
    record { later = le; fault = λ k. let same : e ≡ fault.Files = cc k in absurd (not_files e h.of_bytes same) }

told_answers : {A : Type 0} (wanted r : Result A LayoutFault) → Tells wanted r → Answers (λ x. x ≡ wanted) r
told_answers wanted (Ok x) h = sym h
told_answers wanted (Err e) (inl m) = inl (ap is_free m)
told_answers wanted (Err e) (inr k) = inr (sym k)

-- what is found of a file that a tree has is the tree's answer
pub found_read : {A : Type 0} (seen : Option Tree) (wanted : Limited → Result A LayoutFault) (place path : List ℕ) (file : Limited) (r : Result A LayoutFault)
    → path ≡ place → IfSome seen (λ t. file ≡ limited (file_at t path)) → Finds (wanted file) r → IfSome seen (λ t. Answers (λ x. x ≡ wanted (limited (file_at t place))) r)
found_read None wanted place path file r p read h = tt
found_read (Some t) wanted place path file r p read h =
    subst (λ f. Answers (λ x. x ≡ wanted f) r) (read ∙ ap (λ q. limited (file_at t q)) p) (told_answers (wanted file) r h.answer)

-- a step behind another
pub then_finds : {A B : Type 0} (wanted r : Result A LayoutFault) (next : A → Result B LayoutFault) (x : A) (s : Result B LayoutFault) → Finds wanted r → r ≡ Ok x → Finds (next x) s → Finds (followed wanted next) s
then_finds wanted (Ok y) next x s h e k =
    let same : wanted ≡ Ok x = h.answer ∙ e in
    subst (λ w. Finds w s) (sym (ap (λ w. followed w next) same)) k
then_finds wanted (Err f) next x s h e k = cc e

pub refuses_then : {A B : Type 0} (wanted r : Result A LayoutFault) (next : A → Result B LayoutFault) (e : LayoutFault) → Finds wanted r → r ≡ Err e → Finds (followed wanted next) (Err e)
refuses_then {A} {B} wanted (Ok y) next e h k = cc k
refuses_then {A} {B} wanted (Err f) next e h k =
    let same : f ≡ e = cc k in
    subst (λ g. Finds (followed wanted next) (Err g)) same record { answer = by h.answer; of_bytes = h.of_bytes }
  where
    by : (f ≡ fault.Memory) ⊎ (wanted ≡ Err f) → Tells (followed wanted next) (Err f)
    by (inl m) = inl m
    by (inr w) = inr (ap (λ x. followed x next) w)

-- the same of answers about a tree
pub answers_then : {A B : Type 0} (seen : Option Tree) (first : Tree → Result A LayoutFault) (next : Tree → A → Result B LayoutFault) (x : A) (s : Result B LayoutFault)
    → IfSome seen (λ t. Answers {A = A} (λ r. r ≡ first t) (Ok x)) → IfSome seen (λ t. Answers (λ r. r ≡ next t x) s) → IfSome seen (λ t. Answers (λ r. r ≡ followed (first t) (next t)) s)
answers_then None first next x s h k = tt
answers_then (Some t) first next x s h k = subst (λ w. Answers (λ r. r ≡ followed w (next t)) s) h k

pub answers_refuse : {A B : Type 0} (seen : Option Tree) (first : Tree → Result A LayoutFault) (next : Tree → A → Result B LayoutFault) (e : LayoutFault)
    → IfSome seen (λ t. Answers {A = A} (λ r. r ≡ first t) (Err e)) → IfSome seen (λ t. Answers {A = B} (λ r. r ≡ followed (first t) (next t)) (Err e))
answers_refuse None first next e h = tt
answers_refuse {A} {B} (Some t) first next e h = by h
  where
    by : (is_free e ≡ true) ⊎ (Err e ≡ first t) → Answers {A = B} (λ r. r ≡ followed (first t) (next t)) (Err e)
    by (inl f) = inl f
    by (inr k) = inr (ap (λ w. followed w (next t)) k)

-- what may come at any step is of a layout
free_is_oci : (e : LayoutFault) → is_free e ≡ true → is_of_oci e ≡ true
free_is_oci fault.NotAnImageDir h = h
free_is_oci (fault.LayoutInvalid member) h = refl
free_is_oci fault.RefAbsent h = refl
free_is_oci (fault.RefAmbiguous count) h = refl
free_is_oci (fault.Digest expected found) h = refl
free_is_oci (fault.TooLarge what most) h = refl
free_is_oci fault.Files h = refl
free_is_oci fault.Memory h = refl

pub free_oci : {A : Type 0} (r : Result A LayoutFault) → StopsFreely r → IfErr r (λ e. is_of_oci e ≡ true)
free_oci (Ok x) h = h
free_oci (Err e) h = free_is_oci e h

-- and refuses nothing
pub free_not_refused : {A : Type 0} (P : Type 0) (r : Result A LayoutFault) → StopsFreely r → IfErr r (λ e. is_free e ≡ false → P)
free_not_refused P (Ok x) h = h
free_not_refused P (Err e) h = λ k. cc (sym h ∙ k)

-- ---- what is found, by cases

-- what has no other answer
pub finds_is : {A : Type 0} (wanted r : Result A LayoutFault) → r ≡ wanted → IfErr r (λ e. is_of_bytes e ≡ true) → Finds wanted r
finds_is wanted (Ok x) h k = record { answer = sym h; of_bytes = k }
finds_is wanted (Err e) h k = record { answer = inr (sym h); of_bytes = k }

-- want of memory may come always
pub finds_memory : {A : Type 0} (wanted : Result A LayoutFault) → Finds wanted (Err fault.Memory)
finds_memory wanted = record { answer = inl refl; of_bytes = refl }

-- entries that were read
pub told_ok : (x : Checked (List Descriptor)) (xs : List Descriptor) → x ≡ Ok xs → Finds (told x) (Ok xs)
told_ok x xs h = record { answer = rw h refl; of_bytes = tt }

pub told_member : (x : Checked (List Descriptor)) (text : List ℕ) → IsFaultOf x (Member text) → Finds (told x) (Err (fault.LayoutInvalid text))
told_member x text h = record { answer = inr (rw (h.1, h.2) refl); of_bytes = refl }

-- entries that were chosen
pub chosen_ok : (x : Result Descriptor ChoiceFault) (y : Descriptor) → x ≡ Ok y → Finds (by_name x) (Ok y)
chosen_ok x y h = record { answer = rw h refl; of_bytes = tt }

pub chosen_absent : (x : Result Descriptor ChoiceFault) → x ≡ Err choice.Absent → Finds (by_name x) (Err fault.RefAbsent)
chosen_absent x h = record { answer = inr (rw h refl); of_bytes = refl }

pub chosen_ambiguous : (x : Result Descriptor ChoiceFault) (count : ℕ) → x ≡ Err (choice.Ambiguous count) → Finds (by_name x) (Err (fault.RefAmbiguous count))
chosen_ambiguous x count h = record { answer = inr (rw h refl); of_bytes = refl }

-- ---- sizes

pub sized_some : (file : Option (List ℕ)) (n size : ℕ) → Some n ≡ option_map length file → (n == size) ≡ is_sized size file
sized_some None n size h = cc h
sized_some (Some bytes) n size h = let e : n ≡ length bytes = cc h in ap (λ m. m == size) e

pub sized_none : (file : Option (List ℕ)) (size : ℕ) → None ≡ option_map length file → false ≡ is_sized size file
sized_none None size h = refl
sized_none (Some bytes) size h = cc h

-- ---- an instance

pub instance_judged : (seen : Option Tree) (P : Tree → Result ⊤ LayoutFault → Type 0) (r : Result ⊤ LayoutFault) → StopsFreely r → ((t : Tree) → P t (Ok tt)) → IfSome seen (λ t. Answers (P t) r)
instance_judged None P r free fine = tt
instance_judged (Some t) P (Ok x) free fine = fine t
instance_judged (Some t) P (Err e) free fine = inl free

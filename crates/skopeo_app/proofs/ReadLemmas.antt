-- Steps of a lane that read its files alone.
use Rattle.std.proofs.Common.{◌≡◌, ◌∙◌, Bool, true, false, List, [], ◌∷◌, ℕ, length, Option, Some, None, Result, Ok, Err, IfSome, IfOk, IfErr, refl, sym, ap, subst, arith}
use Rattle.std.specs.Option.{option_map}
use Rattle.skopeo_outside.specs.Tree.{Tree, file_at}
use Rattle.skopeo_outside.specs.Outside.{Told, HasCause}
use Rattle.skopeo_outside.specs.declared.stop.Stop.{Stop}
use Rattle.skopeo_outside.specs.declared.stop.Stop.TheVariants as stop
use Rattle.skopeo_outside.specs.LaneTold.{LaneTold, IsLater}
use Rattle.skopeo_outside.specs.LaneLaws.{later_same, later_then, later_files, told_same}
use Rattle.skopeo_outside.specs.Steps.{Ends, EndsBy, Says, SaysBy}
use Rattle.skopeo_outside.specs.OnLanes.{LaneStep}
use Rattle.layouts.specs.Bounds.{limited}
use Rattle.layouts.specs.declared.read.Limited.{Limited}
use Rattle.transports.specs.declared.refusal.Refusal.TheVariants as image
use Rattle.transports.specs.Has.{IsUntouched}
use Rattle.skopeo_app.specs.declared.refusal.CommandRefusal.{CommandRefusal}
use Rattle.skopeo_app.specs.declared.refusal.CommandRefusal.TheVariants.{Words, Reference, SamePlace, NotBuilt, PolicyMissing, PolicyInvalid, PolicyTooLarge, ConfMissing, ConfInvalid, ConfTooLarge, Image, Output}
use Rattle.skopeo_app.specs.Refusals.{is_free, is_of_copy}
use Rattle.skopeo_app.specs.Courses.{lane_course, shows_earlier}
use Rattle.skopeo_app.specs.Usual.{system_path, user_path, usual_path}
use Rattle.skopeo_app.specs.Reads.{stopped, IsQuiet, ReadsAs, by_files}

-- ---- a lane on which files are read alone

pub quiet_same : (a : LaneTold) → IsQuiet a a
quiet_same a = record { from = refl; to = refl; number = refl; tree = refl; faults = omega arith }

pub quiet_then : (a b c : LaneTold) → IsQuiet a b → IsQuiet b c → IsQuiet a c
quiet_then a b c r s = record { from = s.from ∙ r.from; to = s.to ∙ r.to; number = s.number ∙ r.number; tree = s.tree ∙ r.tree; faults = (let x = r.faults in let y = s.faults in omega arith) }

pub quiet_later : (a b : LaneTold) → IsQuiet a b → IsLater a b
quiet_later a b q = later_files a b q.from q.to q.number (record { tells = subst (λ x. Told (λ _ _. Unit {0}) a.files.tree x) (sym q.tree) (told_same (λ _ _. Unit {0}) (λ t. tt) a.files.tree); faults = q.faults })

pub quiet_untouched : (a b : LaneTold) → IsQuiet a b → IsUntouched a b
quiet_untouched a b q = record { files = q.tree; to = ap (λ w. w.talks) q.to }

-- ---- ends of a step

-- a step of which each end is one of a wider one
pub ends_as : {A : Type 0} (p q : LaneStep CommandRefusal A) (a m b : LaneTold) (r : Result A CommandRefusal) → IsLater a m → ((w : Result A CommandRefusal) → p m b w → q a b w) → Ends lane_course p m b r → Ends lane_course q a b r
unfolding Ends lane_course
ends_as p q a m b (Ok x) later f end = record { later = later_then a m b later end.later; ends = f (Ok x) end.ends }
ends_as {A} p q a m b (Err e) later f end = record { later = later_then a m b later end.later; ends = by (is_free e) end.ends }
  where
    by : (free : Bool) → EndsBy {A = A} free lane_course e p m b → EndsBy {A = A} free lane_course e q a b
    by true shown = shows_earlier e a m b later shown
    by false is = f (Err e) is

-- a refusal of a step that is one of another
refused_as : {A B : Type 0} (p : LaneStep CommandRefusal A) (q : LaneStep CommandRefusal B) (a b : LaneTold) (e : CommandRefusal) → (p a b (Err e) → q a b (Err e)) → Ends lane_course p a b (Err e) → Ends lane_course q a b (Err e)
unfolding Ends lane_course
refused_as {A} {B} p q a b e f end = record { later = end.later; ends = by (is_free e) end.ends }
  where
    by : (free : Bool) → EndsBy {A = A} free lane_course e p a b → EndsBy {A = B} free lane_course e q a b
    by true shown = shown
    by false is = f is

-- what is said of a step that read files alone
said_ends : {A : Type 0} (step : LaneStep CommandRefusal A) (a b : LaneTold) (w r : Result A CommandRefusal) → IsLater a b → Says lane_course w r → step a b w → Ends lane_course step a b r
unfolding Ends Says lane_course
said_ends step a b w (Ok x) later says end = record { later = later; ends = subst (step a b) says end }
said_ends {A} step a b w (Err e) later says end = record { later = later; ends = by (is_free e) says }
  where
    by : (f : Bool) → SaysBy f lane_course w e → EndsBy {A = A} f lane_course e step a b
    by true shown = shows_earlier e a b b later (shown b)
    by false is = subst (step a b) is end

-- ---- refusals

pub err_same : {A : Type 0} (d e : CommandRefusal) → ◌≡◌ {A = Result A CommandRefusal} (Err d) (Err e) → d ≡ e
err_same d e is = cc

free_other : (e : CommandRefusal) → is_free e ≡ true → is_of_copy e ≡ true
free_other (Words place kind) free = let x : false ≡ true = free in cc
free_other (Reference text fault) free = let x : false ≡ true = free in cc
free_other (SamePlace path) free = let x : false ≡ true = free in cc
free_other (NotBuilt what) free = let x : false ≡ true = free in cc
free_other (PolicyMissing path) free = refl
free_other (PolicyInvalid path kind member) free = refl
free_other PolicyTooLarge free = refl
free_other (ConfMissing path) free = refl
free_other (ConfInvalid path fault) free = refl
free_other ConfTooLarge free = refl
free_other (Image e) free = refl
free_other (Output count) free = let x : false ≡ true = free in cc

said_other : {A : Type 0} (w r : Result A CommandRefusal) → ((e : CommandRefusal) → w ≡ Err e → is_of_copy e ≡ true) → Says lane_course w r → IfErr r (λ e. is_of_copy e ≡ true)
unfolding Says lane_course
said_other w (Ok p) of says = tt
said_other w (Err e) of says = by (is_free e) refl says
  where
    by : (f : Bool) → is_free e ≡ f → SaysBy f lane_course w e → is_of_copy e ≡ true
    by true free says = free_other e free
    by false free says = of e says

stopped_at : {A B : Type 0} (step : LaneStep CommandRefusal A) (a b : LaneTold) (s : Stop) → IsQuiet a b → HasCause {T = B} a.files.faults b.files.faults (Err s) → ReadsAs step a b (Err (stopped s b.files.faults))
unfolding Ends lane_course
stopped_at step a b stop.Fault q cause = record { ends = record { later = quiet_later a b q; ends = record { is = refl; rose = cause.fault refl } }; quiet = q; other = refl }
stopped_at step a b stop.Memory q cause = record { ends = record { later = quiet_later a b q; ends = tt }; quiet = q; other = refl }

-- a stopped call of the files ends any step
pub stopped_reads : {A B : Type 0} (step : LaneStep CommandRefusal A) (a b : LaneTold) (s : Stop) (e : CommandRefusal) → IsQuiet a b → HasCause {T = B} a.files.faults b.files.faults (Err s) → e ≡ stopped s b.files.faults
    → ReadsAs step a b (Err e)
stopped_reads {A} {B} step a b s e q cause is = subst (λ v. ReadsAs step a b (Err v)) (sym is) (stopped_at {A = A} {B = B} step a b s q cause)

-- and so does want of memory
pub memory_reads : {A : Type 0} (step : LaneStep CommandRefusal A) (a b : LaneTold) → IsQuiet a b → ReadsAs step a b (Err (Image image.Memory))
unfolding Ends lane_course
memory_reads step a b q = record { ends = record { later = quiet_later a b q; ends = tt }; quiet = q; other = refl }

-- ---- one file

was_by : {A : Type 0} (from : Limited → Result A CommandRefusal) (path : List ℕ) (file : Limited) (x : Option Tree) → IfSome x (λ t. file ≡ limited (file_at t path)) → IfSome x (λ t. from file ≡ from (limited (file_at t path)))
was_by from path file None is = tt
was_by from path file (Some t) is = ap from is

-- a file was read, and it says something or does not
pub file_reads : {A : Type 0} (from : Limited → Result A CommandRefusal) (path : List ℕ) (file : Limited) (a b : LaneTold) (r : Result A CommandRefusal) → ((e : CommandRefusal) → from file ≡ Err e → is_of_copy e ≡ true) → IsQuiet a b
    → IfSome a.files.tree (λ t. file ≡ limited (file_at t path)) → Says lane_course (from file) r → ReadsAs (by_files (λ t. from (limited (file_at t path)))) a b r
unfolding by_files
file_reads from path file a b r of q was says = record {
  ends = said_ends (by_files (λ t. from (limited (file_at t path)))) a b (from file) r (quiet_later a b q) says (was_by from path file a.files.tree was, quiet_untouched a b q);
  quiet = q;
  other = said_other (from file) r of says;
}

by_wider : {A : Type 0} (f g : Tree → Result A CommandRefusal) (w : Result A CommandRefusal) (x y : Option Tree) → y ≡ x → IfSome x (λ t. f t ≡ g t) → IfSome y (λ t. w ≡ g t) → IfSome x (λ t. w ≡ f t)
by_wider f g w None y e same is = tt
by_wider f g w (Some t) y e same is = let h : w ≡ g t = subst (λ z. IfSome z (λ t. w ≡ g t)) e is in h ∙ sym same

-- a file was read behind another call of the files
reads_then : {A : Type 0} (f g : Tree → Result A CommandRefusal) (a m b : LaneTold) (r : Result A CommandRefusal) → IsQuiet a m → IfSome a.files.tree (λ t. f t ≡ g t) → ReadsAs (by_files g) m b r → ReadsAs (by_files f) a b r
unfolding by_files
reads_then f g a m b r q same reads = record {
  ends = ends_as (by_files g) (by_files f) a m b r (quiet_later a m q) (λ w end. (by_wider f g w a.files.tree m.files.tree q.tree same end.0, quiet_untouched a b (quiet_then a m b q reads.quiet))) reads.ends;
  quiet = quiet_then a m b q reads.quiet;
  other = reads.other;
}

-- ---- the path that counts

path_by : (path : Tree → List ℕ) (p : List ℕ) (x : Option Tree) → IfSome x (λ t. p ≡ path t) → IfSome x (λ t. ◌≡◌ {A = Result (List ℕ) CommandRefusal} (Ok p) (Ok (path t)))
path_by path p None is = tt
path_by path p (Some t) is = ap Ok is

-- a path was found
pub path_reads : (path : Tree → List ℕ) (p : List ℕ) (a b : LaneTold) → IsQuiet a b → IfSome a.files.tree (λ t. p ≡ path t) → ReadsAs (by_files (λ t. Ok (path t))) a b (Ok p)
unfolding Ends by_files lane_course
path_reads path p a b q is = record { ends = record { later = quiet_later a b q; ends = (path_by path p a.files.tree is, quiet_untouched a b q) }; quiet = q; other = tt }

system_is : (home cwd name : List ℕ) (x : Option Tree) → length home ≡ 0 → IfSome x (λ t. system_path name ≡ usual_path t home cwd name)
system_is home cwd name None none = tt
system_is [] cwd name (Some t) none = refl
system_is (c ∷ home) cwd name (Some t) none = let x : length (c ∷ home) ≡ 0 = none in cc

-- an answer that is a path, or want of memory
from_path : (path : Tree → List ℕ) (a b : LaneTold) (p : List ℕ) (r : Result (List ℕ) CommandRefusal) → IsQuiet a b → IfSome a.files.tree (λ t. p ≡ path t) → IfOk r (λ v. v ≡ p) → IfErr r (λ e. e ≡ Image image.Memory)
    → ReadsAs (by_files (λ t. Ok (path t))) a b r
from_path path a b p (Ok v) q is same memory = path_reads path v a b q (subst (λ u. IfSome a.files.tree (λ t. u ≡ path t)) (sym same) is)
from_path path a b p (Err e) q is same memory = subst (λ v. ReadsAs (by_files (λ t. Ok (path t))) a b (Err v)) (sym memory) (memory_reads (by_files (λ t. Ok (path t))) a b q)

-- no user is at home at the empty path
pub homeless_path : (home cwd name : List ℕ) (a : LaneTold) (r : Result (List ℕ) CommandRefusal) → length home ≡ 0 → IfOk r (λ p. p ≡ system_path name) → IfErr r (λ e. e ≡ Image image.Memory)
    → ReadsAs (by_files (λ t. Ok (usual_path t home cwd name))) a a r
homeless_path home cwd name a r none same memory = from_path (λ t. usual_path t home cwd name) a a (system_path name) r (quiet_same a) (system_is home cwd name a.files.tree none) same memory

user_is : (home cwd name : List ℕ) (size : ℕ) (x : Option Tree) → (length home ≡ 0 → ⊥) → IfSome x (λ t. Some size ≡ option_map length (file_at t (user_path home cwd name))) → IfSome x (λ t. user_path home cwd name ≡ usual_path t home cwd name)
user_is home cwd name size None some there = tt
user_is [] cwd name size (Some t) some there = absurd (some refl)
user_is (c ∷ home) cwd name size (Some t) some there = by (file_at t (user_path (c ∷ home) cwd name)) refl
  where
    by : (f : Option (List ℕ)) → file_at t (user_path (c ∷ home) cwd name) ≡ f → user_path (c ∷ home) cwd name ≡ usual_path t (c ∷ home) cwd name
    by None e = let x : Some size ≡ None = there ∙ ap (option_map length) e in cc
    by (Some bytes) e = rw (e) refl

absent_is : (home cwd name : List ℕ) (x : Option Tree) → IfSome x (λ t. None ≡ option_map length (file_at t (user_path home cwd name))) → IfSome x (λ t. system_path name ≡ usual_path t home cwd name)
absent_is home cwd name None none = tt
absent_is [] cwd name (Some t) none = refl
absent_is (c ∷ home) cwd name (Some t) none = by (file_at t (user_path (c ∷ home) cwd name)) refl
  where
    by : (f : Option (List ℕ)) → file_at t (user_path (c ∷ home) cwd name) ≡ f → system_path name ≡ usual_path t (c ∷ home) cwd name
    by None e = rw (e) refl
    by (Some bytes) e = let x : None ≡ Some (length bytes) = none ∙ ap (option_map length) e in cc

-- the user's file is there
pub user_reads : (home cwd name p : List ℕ) (size : ℕ) (a b : LaneTold) → (length home ≡ 0 → ⊥) → p ≡ user_path home cwd name → IsQuiet a b → IfSome a.files.tree (λ t. Some size ≡ option_map length (file_at t p))
    → ReadsAs (by_files (λ t. Ok (usual_path t home cwd name))) a b (Ok p)
user_reads home cwd name p size a b some is q there =
    path_reads (λ t. usual_path t home cwd name) p a b q
    (subst (λ v. IfSome a.files.tree (λ t. v ≡ usual_path t home cwd name)) (sym is) (user_is home cwd name size a.files.tree some (subst (λ v. IfSome a.files.tree (λ t. Some size ≡ option_map length (file_at t v))) is there)))

-- it is not
pub system_reads : (home cwd name asked : List ℕ) (a b : LaneTold) (r : Result (List ℕ) CommandRefusal) → asked ≡ user_path home cwd name → IfOk r (λ p. p ≡ system_path name) → IfErr r (λ e. e ≡ Image image.Memory) → IsQuiet a b
    → IfSome a.files.tree (λ t. None ≡ option_map length (file_at t asked)) → ReadsAs (by_files (λ t. Ok (usual_path t home cwd name))) a b r
system_reads home cwd name asked a b r ask same memory q none =
    from_path (λ t. usual_path t home cwd name) a b (system_path name) r q (absent_is home cwd name a.files.tree (subst (λ v. IfSome a.files.tree (λ t. None ≡ option_map length (file_at t v))) ask none)) same memory

-- ---- the file at the path that counts

found_is : {A : Type 0} (path : Tree → List ℕ) (file : Tree → List ℕ → Result A CommandRefusal) (p : List ℕ) (x : Option Tree) → IfSome x (λ t. ◌≡◌ {A = Result (List ℕ) CommandRefusal} (Ok p) (Ok (path t))) → IfSome x (λ t. file t (path t) ≡ file t p)
found_is path file p None is = tt
found_is path file p (Some t) is = ap (file t) (sym (same is))
  where
    same : ◌≡◌ {A = Result (List ℕ) CommandRefusal} (Ok p) (Ok (path t)) → p ≡ path t
    same e = cc

found_at : (path : Tree → List ℕ) (p : List ℕ) (a b : LaneTold) → Ends lane_course (by_files (λ t. Ok (path t))) a b (Ok p) → IfSome a.files.tree (λ t. ◌≡◌ {A = Result (List ℕ) CommandRefusal} (Ok p) (Ok (path t)))
unfolding Ends by_files
found_at path p a b end = end.ends.0

-- the path was found, and then its file was read
pub found_reads : {A : Type 0} (path : Tree → List ℕ) (file : Tree → List ℕ → Result A CommandRefusal) (p q : List ℕ) (a m b : LaneTold) (r : Result A CommandRefusal) → ReadsAs (by_files (λ t. Ok (path t))) a m (Ok p) → q ≡ p
    → ReadsAs (by_files (λ t. file t q)) m b r → ReadsAs (by_files (λ t. file t (path t))) a b r
found_reads path file p q a m b r found is reads =
    reads_then (λ t. file t (path t)) (λ t. file t p) a m b r found.quiet (found_is path file p a.files.tree (found_at path p a m found.ends)) (subst (λ v. ReadsAs (by_files (λ t. file t v)) m b r) is reads)

none_by : {A B : Type 0} (f : Tree → A) (g : Tree → Result B CommandRefusal) (e : CommandRefusal) (x : Option Tree) → IfSome x (λ t. ◌≡◌ {A = Result A CommandRefusal} (Err e) (Ok (f t))) → IfSome x (λ t. Err e ≡ g t)
none_by f g e None is = tt
none_by {A} f g e (Some t) is = let x : ◌≡◌ {A = Result A CommandRefusal} (Err e) (Ok (f t)) = is in cc

-- it was not found
pub lost_reads : {A : Type 0} (path : Tree → List ℕ) (said : Tree → Result A CommandRefusal) (a b : LaneTold) (e : CommandRefusal) → ReadsAs (by_files (λ t. Ok (path t))) a b (Err e) → ReadsAs (by_files said) a b (Err e)
unfolding by_files
lost_reads {A} path said a b e reads = record {
  ends = refused_as {A = List ℕ} {B = A} (by_files (λ t. Ok (path t))) (by_files said) a b e (λ end. (none_by path said e a.files.tree end.0, end.1)) reads.ends;
  quiet = reads.quiet;
  other = reads.other;
}

-- ---- a choice

-- the step of a choice is that of what was chosen
pub chosen_reads : {A C : Type 0} (step : C → LaneStep CommandRefusal A) (choice chosen : C) (p : LaneStep CommandRefusal A) (a b : LaneTold) (r : Result A CommandRefusal) → choice ≡ chosen → ((w : Result A CommandRefusal) → p a b w → step chosen a b w)
    → ReadsAs p a b r → ReadsAs (step choice) a b r
chosen_reads step choice chosen p a b r is f reads = subst (λ v. ReadsAs (step v) a b r) (sym is) (record {
  ends = ends_as p (step chosen) a a b r (later_same a) f reads.ends;
  quiet = reads.quiet;
  other = reads.other;
})

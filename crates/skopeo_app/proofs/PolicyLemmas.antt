-- The policy file that counts, as a step of a lane.
use Rattle.std.proofs.Common.{◌≡◌, List, ℕ, Result, Ok, Err, refl, sym, ap, subst, true}
use Rattle.skopeo_outside.specs.LaneTold.{LaneTold}
use Rattle.skopeo_outside.specs.LaneLaws.{later_same}
use Rattle.skopeo_outside.specs.Steps.{Ends}
use Rattle.layouts.specs.declared.read.Limited.{Limited}
use Rattle.layouts.specs.declared.read.Limited.TheVariants.{Absent, TooLong, Whole}
use Rattle.policy_file.specs.PolicyLists.{PolicyLists, accepting}
use Rattle.policy_file.specs.PolicyOf.{policy_in}
use Rattle.policy_file.specs.declared.fault.PolicyFault.{PolicyFault}
use Rattle.policy_file.specs.declared.fault.PolicyFault.TheVariants as fault
use Rattle.transports.specs.declared.refusal.Refusal.TheVariants as image
use Rattle.skopeo_app.specs.declared.refusal.CommandRefusal.{CommandRefusal}
use Rattle.skopeo_app.specs.declared.refusal.CommandRefusal.TheVariants.{PolicyMissing, PolicyInvalid, PolicyTooLarge, Image}
use Rattle.skopeo_app.specs.declared.task.PolicyChoice.{PolicyChoice}
use Rattle.skopeo_app.specs.declared.task.PolicyChoice.TheVariants.{Anything, Named, Usual}
use Rattle.skopeo_app.specs.Refusals.{is_of_copy}
use Rattle.skopeo_app.specs.Courses.{lane_course}
use Rattle.skopeo_app.specs.Usual.{usual_path}
use Rattle.skopeo_app.specs.Policy.{policy_name, or_invalid, policy_from, policy_file, policy_end}
use Rattle.skopeo_app.specs.Reads.{ReadsAs, by_files}
use Rattle.skopeo_app.proofs.ReadLemmas.{quiet_same, quiet_untouched, err_same, chosen_reads}

invalid_other : (path : List ℕ) (r : Result PolicyLists PolicyFault) (e : CommandRefusal) → or_invalid path r ≡ Err e → is_of_copy e ≡ true
invalid_other path (Ok p) e is = let x : ◌≡◌ {A = Result PolicyLists CommandRefusal} (Ok p) (Err e) = is in cc
invalid_other path (Err (fault.Refused kind member)) e is = subst (λ v. is_of_copy v ≡ true) (err_same (PolicyInvalid path kind member) e is) refl
invalid_other path (Err fault.Memory) e is = subst (λ v. is_of_copy v ≡ true) (err_same (Image image.Memory) e is) refl

-- a refusal of a policy file is one of the copy
pub from_other : (path : List ℕ) (file : Limited) (e : CommandRefusal) → policy_from path file ≡ Err e → is_of_copy e ≡ true
unfolding policy_from
from_other path Absent e is = subst (λ v. is_of_copy v ≡ true) (err_same (PolicyMissing path) e is) refl
from_other path TooLong e is = subst (λ v. is_of_copy v ≡ true) (err_same PolicyTooLarge e is) refl
from_other path (Whole bytes) e is = invalid_other path (policy_in bytes) e is

-- ---- the policy of a choice

named_end : (home cwd path : List ℕ) (a b : LaneTold) (w : Result PolicyLists CommandRefusal) → by_files (λ t. policy_file t path) a b w → policy_end home cwd (Named path) a b w
unfolding by_files policy_end
named_end home cwd path a b w end = end

usual_end : (home cwd : List ℕ) (a b : LaneTold) (w : Result PolicyLists CommandRefusal) → by_files (λ t. policy_file t (usual_path t home cwd policy_name)) a b w → policy_end home cwd Usual a b w
unfolding by_files policy_end
usual_end home cwd a b w end = end

pub named_reads : (home cwd path : List ℕ) (choice : PolicyChoice) (a b : LaneTold) (r : Result PolicyLists CommandRefusal) → choice ≡ Named path → ReadsAs (by_files (λ t. policy_file t path)) a b r → ReadsAs (policy_end home cwd choice) a b r
named_reads home cwd path choice a b r is reads = chosen_reads (policy_end home cwd) choice (Named path) (by_files (λ t. policy_file t path)) a b r is (named_end home cwd path a b) reads

pub usual_reads : (home cwd : List ℕ) (choice : PolicyChoice) (a b : LaneTold) (r : Result PolicyLists CommandRefusal) → choice ≡ Usual → ReadsAs (by_files (λ t. policy_file t (usual_path t home cwd policy_name))) a b r
    → ReadsAs (policy_end home cwd choice) a b r
usual_reads home cwd choice a b r is reads = chosen_reads (policy_end home cwd) choice Usual (by_files (λ t. policy_file t (usual_path t home cwd policy_name))) a b r is (usual_end home cwd a b) reads

anything_at : (home cwd : List ℕ) (a : LaneTold) (p : PolicyLists) → p ≡ accepting → ReadsAs (policy_end home cwd Anything) a a (Ok p)
unfolding Ends lane_course policy_end
anything_at home cwd a p is = record { ends = record { later = later_same a; ends = (ap Ok is, quiet_untouched a a (quiet_same a)) }; quiet = quiet_same a; other = tt }

pub anything_reads : (home cwd : List ℕ) (choice : PolicyChoice) (a : LaneTold) (p : PolicyLists) → choice ≡ Anything → p ≡ accepting → ReadsAs (policy_end home cwd choice) a a (Ok p)
anything_reads home cwd choice a p is accepts = subst (λ v. ReadsAs (policy_end home cwd v) a a (Ok p)) (sym is) (anything_at home cwd a p accepts)

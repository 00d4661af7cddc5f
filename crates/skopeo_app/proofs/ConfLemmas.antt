-- The configuration of the registries that counts, as a step of a lane.
use Rattle.std.proofs.Common.{◌≡◌, ◌∙◌, [], List, ℕ, Bool, true, false, Result, Ok, Err, inl, inr, refl, sym, ap, subst}
use Rattle.std.specs.Str.{is_utf8, chars}
use Rattle.toml.proofs.OnLiterals.{toml_on_literals}
use Rattle.skopeo_outside.specs.LaneTold.{LaneTold}
use Rattle.skopeo_outside.specs.LaneLaws.{later_same}
use Rattle.skopeo_outside.specs.Steps.{Ends, Says}
use Rattle.layouts.specs.declared.read.Limited.{Limited}
use Rattle.layouts.specs.declared.read.Limited.TheVariants.{Absent, TooLong, Whole}
use Rattle.image_ref.specs.Calls.{Answers}
use Rattle.registries_conf.specs.Settings.{Settings}
use Rattle.registries_conf.specs.ConfOf.{settings_of, checked, conf_in}
use Rattle.registries_conf.specs.declared.fault.ConfFault.{ConfFault}
use Rattle.registries_conf.specs.declared.fault.ConfFault.TheVariants as fault
use Rattle.transports.specs.declared.refusal.Refusal.TheVariants as image
use Rattle.skopeo_app.specs.declared.refusal.CommandRefusal.{CommandRefusal}
use Rattle.skopeo_app.specs.declared.refusal.CommandRefusal.TheVariants.{ConfMissing, ConfTooLarge, Image}
use Rattle.skopeo_app.specs.declared.task.ConfChoice.{ConfChoice}
use Rattle.skopeo_app.specs.declared.task.ConfChoice.TheVariants.{Unread, Named, Usual}
use Rattle.skopeo_app.specs.Refusals.{is_of_copy}
use Rattle.skopeo_app.specs.Courses.{lane_course}
use Rattle.skopeo_app.specs.Usual.{usual_path}
use Rattle.skopeo_app.specs.Conf.{conf_name, no_conf, invalid_conf, or_bad, absent_conf, conf_from, conf_file, conf_end}
use Rattle.skopeo_app.specs.Reads.{ReadsAs, by_files}
use Rattle.skopeo_app.proofs.ReadLemmas.{quiet_same, quiet_untouched, err_same, chosen_reads}

-- ---- what bytes say

empty_says : conf_in [] ≡ Ok no_conf
unfolding toml_on_literals settings_of checked is_utf8 chars
empty_says = refl

value_same : (c d : Settings) → ◌≡◌ {A = Result Settings ConfFault} (Ok c) (Ok d) → c ≡ d
value_same c d e = cc

no_want : (c : Settings) → ◌≡◌ {A = Result Settings ConfFault} (Ok c) (Err fault.Memory) → ⊥
no_want c e = cc

-- no bytes say nothing
pub no_bytes : (c : Settings) → Answers fault.Memory (Ok c) (conf_in []) → c ≡ no_conf
no_bytes c (inl want) = absurd (no_want c want)
no_bytes c (inr is) = value_same c no_conf (is ∙ empty_says)

pub value_said : (path : List ℕ) (w : Result Settings ConfFault) (c : Settings) → Answers fault.Memory (Ok c) w → Says lane_course (or_bad path w) (Ok c)
unfolding Says lane_course
value_said path w c (inl want) = absurd (no_want c want)
value_said path w c (inr is) = ap (or_bad path) (sym is)

fault_same : (d e : ConfFault) → ◌≡◌ {A = Result Settings ConfFault} (Err d) (Err e) → d ≡ e
fault_same d e is = cc

want_says : (w : Result Settings CommandRefusal) → Says lane_course w (Err (Image image.Memory))
unfolding Says lane_course
want_says w = λ s. tt

fault_is : (e : ConfFault) (w : Result Settings ConfFault) → (e ≡ fault.Memory → ⊥) → Answers fault.Memory (Err e) w → w ≡ Err e
fault_is e w other (inl want) = absurd (other (fault_same e fault.Memory want))
fault_is e w other (inr is) = sym is

pub fault_said : (path : List ℕ) (w : Result Settings ConfFault) (e : ConfFault) → Answers fault.Memory (Err e) w → Says lane_course (or_bad path w) (Err (invalid_conf path e))
unfolding Says lane_course
fault_said path w fault.NotToml answers = ap (or_bad path) (fault_is fault.NotToml w (λ is. cc) answers)
fault_said path w (fault.Shape key) answers = ap (or_bad path) (fault_is (fault.Shape key) w (λ is. cc) answers)
fault_said path w fault.V1 answers = ap (or_bad path) (fault_is fault.V1 w (λ is. cc) answers)
fault_said path w (fault.BadPrefix table) answers = ap (or_bad path) (fault_is (fault.BadPrefix table) w (λ is. cc) answers)
fault_said path w (fault.MirrorClash table) answers = ap (or_bad path) (fault_is (fault.MirrorClash table) w (λ is. cc) answers)
fault_said path w fault.Memory answers = λ s. tt

pub want_said : (w : Result Settings CommandRefusal) → Says lane_course w (Err (Image image.Memory))
want_said w = want_says w

-- ---- refusals

invalid_other : (path : List ℕ) (e : ConfFault) → is_of_copy (invalid_conf path e) ≡ true
invalid_other path fault.NotToml = refl
invalid_other path (fault.Shape key) = refl
invalid_other path fault.V1 = refl
invalid_other path (fault.BadPrefix table) = refl
invalid_other path (fault.MirrorClash table) = refl
invalid_other path fault.Memory = refl

bad_other : (path : List ℕ) (r : Result Settings ConfFault) (e : CommandRefusal) → or_bad path r ≡ Err e → is_of_copy e ≡ true
bad_other path (Ok c) e is = let x : ◌≡◌ {A = Result Settings CommandRefusal} (Ok c) (Err e) = is in cc
bad_other path (Err d) e is = subst (λ v. is_of_copy v ≡ true) (err_same (invalid_conf path d) e is) (invalid_other path d)

absent_other : (named : Bool) (path : List ℕ) (e : CommandRefusal) → absent_conf named path ≡ Err e → is_of_copy e ≡ true
absent_other true path e is = subst (λ v. is_of_copy v ≡ true) (err_same (ConfMissing path) e is) refl
absent_other false path e is = let x : ◌≡◌ {A = Result Settings CommandRefusal} (Ok no_conf) (Err e) = is in cc

-- a refusal of a file of it is one of the copy
pub from_other : (named : Bool) (path : List ℕ) (file : Limited) (e : CommandRefusal) → conf_from named path file ≡ Err e → is_of_copy e ≡ true
unfolding conf_from
from_other named path Absent e is = absent_other named path e is
from_other named path TooLong e is = subst (λ v. is_of_copy v ≡ true) (err_same ConfTooLarge e is) refl
from_other named path (Whole bytes) e is = bad_other path (conf_in bytes) e is

-- ---- the configuration of a choice

named_end : (home cwd path : List ℕ) (a b : LaneTold) (w : Result Settings CommandRefusal) → by_files (λ t. conf_file true t path) a b w → conf_end home cwd (Named path) a b w
unfolding by_files conf_end
named_end home cwd path a b w end = end

usual_end : (home cwd : List ℕ) (a b : LaneTold) (w : Result Settings CommandRefusal) → by_files (λ t. conf_file false t (usual_path t home cwd conf_name)) a b w → conf_end home cwd Usual a b w
unfolding by_files conf_end
usual_end home cwd a b w end = end

pub named_reads : (home cwd path : List ℕ) (choice : ConfChoice) (a b : LaneTold) (r : Result Settings CommandRefusal) → choice ≡ Named path → ReadsAs (by_files (λ t. conf_file true t path)) a b r → ReadsAs (conf_end home cwd choice) a b r
named_reads home cwd path choice a b r is reads = chosen_reads (conf_end home cwd) choice (Named path) (by_files (λ t. conf_file true t path)) a b r is (named_end home cwd path a b) reads

pub usual_reads : (home cwd : List ℕ) (choice : ConfChoice) (a b : LaneTold) (r : Result Settings CommandRefusal) → choice ≡ Usual → ReadsAs (by_files (λ t. conf_file false t (usual_path t home cwd conf_name))) a b r
    → ReadsAs (conf_end home cwd choice) a b r
usual_reads home cwd choice a b r is reads = chosen_reads (conf_end home cwd) choice Usual (by_files (λ t. conf_file false t (usual_path t home cwd conf_name))) a b r is (usual_end home cwd a b) reads

unread_at : (home cwd : List ℕ) (a : LaneTold) (c : Settings) → c ≡ no_conf → ReadsAs (conf_end home cwd Unread) a a (Ok c)
unfolding Ends lane_course conf_end
unread_at home cwd a c is = record { ends = record { later = later_same a; ends = (ap Ok is, quiet_untouched a a (quiet_same a)) }; quiet = quiet_same a; other = tt }

-- no registry is named
pub unread_reads : (home cwd : List ℕ) (choice : ConfChoice) (a : LaneTold) (c : Settings) → choice ≡ Unread → c ≡ no_conf → ReadsAs (conf_end home cwd choice) a a (Ok c)
unread_reads home cwd choice a c is says = subst (λ v. ReadsAs (conf_end home cwd v) a a (Ok c)) (sym is) (unread_at home cwd a c says)

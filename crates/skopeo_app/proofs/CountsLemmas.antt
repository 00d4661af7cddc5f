-- The policy and the configuration that were read on the first lane are those that count.
use Rattle.std.proofs.Common.{◌≡◌, ◌∙◌, ◌<◌, Bool, true, false, List, [], ◌∷◌, ℕ, length, nat_le, cond, Option, Some, None, Result, Ok, Err, inl, inr, IfSome, IfOk, slice_index_or, slice_set, refl, sym, ap, subst, arith}
use Rattle.skopeo_outside.specs.Tree.{Tree, file_at}
use Rattle.skopeo_outside.specs.LaneTold.{LaneTold, IsLater}
use Rattle.skopeo_outside.specs.LaneLaws.{later_same}
use Rattle.skopeo_outside.specs.Helper.{Runs}
use Rattle.skopeo_outside.specs.Seen.{AreLanes, seen}
use Rattle.skopeo_outside.specs.Steps.{Then, goes, stops, ◌>>=◌, given, Ends}
use Rattle.skopeo_outside.proofs.FirstLemmas.{first_set, set_each, set_keeps}
use Rattle.layouts.specs.Bounds.{limited, limited_by, limit, whole_of, bounded_by}
use Rattle.layouts.specs.declared.read.Limited.{Limited}
use Rattle.layouts.specs.declared.read.Limited.TheVariants.{Absent, TooLong, Whole}
use Rattle.policy_file.specs.PolicyLists.{PolicyLists, accepting}
use Rattle.policy_file.specs.PolicyOf.{policy_in}
use Rattle.policy_file.proofs.PolicyLaw.{read_says}
use Rattle.policy_file.specs.declared.fault.PolicyFault.{PolicyFault}
use Rattle.policy_file.specs.declared.fault.PolicyFault.TheVariants as fault
use Rattle.registries_conf.specs.Settings.{Settings}
use Rattle.registries_conf.specs.ConfOf.{tree as conf_tree, conf_in}
use Rattle.registries_conf.proofs.ConfLaw.{conf_says}
use Rattle.registries_conf.specs.declared.fault.ConfFault.{ConfFault}
use Rattle.skopeo_app.specs.declared.refusal.CommandRefusal.{CommandRefusal}
use Rattle.skopeo_app.specs.declared.refusal.CommandRefusal.TheVariants.{ConfMissing, ConfTooLarge}
use Rattle.skopeo_app.specs.declared.rules.Rules.{Rules}
use Rattle.skopeo_app.specs.declared.task.CopyTask.{CopyTask}
use Rattle.skopeo_app.specs.declared.task.ConfChoice.{ConfChoice}
use Rattle.skopeo_app.specs.declared.task.ConfChoice.TheVariants as chosen
use Rattle.skopeo_app.specs.declared.task.PolicyChoice.{PolicyChoice}
use Rattle.skopeo_app.specs.declared.task.PolicyChoice.TheVariants.{Anything, Named, Usual}
use Rattle.skopeo_app.specs.Refusals.{is_memory}
use Rattle.skopeo_app.specs.Courses.{lane_course}
use Rattle.skopeo_app.specs.Usual.{usual_path}
use Rattle.skopeo_app.specs.Policy.{policy_name, or_invalid, policy_from, policy_file, policy_end}
use Rattle.skopeo_app.specs.Conf.{conf_name, no_conf, invalid_conf, or_bad, conf_from, conf_file, conf_end}
use Rattle.skopeo_app.specs.Rules.{rules_end}
use Rattle.skopeo_app.specs.Headline.{SaysPolicy, Counts, SaysConf, MaySay, ConfCounts, RulesCount, first_tree}
use Rattle.skopeo_app.specs.Reads.{IsQuiet, ReadsAs, ReadsFirst}
use Rattle.copy_engine.proofs.LiftLemmas.{lanes_later}
use Rattle.skopeo_app.proofs.ReadLemmas.{quiet_same, quiet_later}
use Rattle.skopeo_app.proofs.RulesLemmas.{rules_of, both}

bounded_is : (most : ℕ) (file : Option (List ℕ)) (bytes : List ℕ) → bounded_by most file ≡ Some bytes → file ≡ Some bytes
bounded_is most None bytes e = let x : None ≡ Some bytes = e in cc
bounded_is most (Some all) bytes e = by (nat_le (length all) most) refl
  where
    by : (b : Bool) → nat_le (length all) most ≡ b → Some all ≡ Some bytes
    by true n = sym (ap (λ b. whole_of (cond b (Whole all) TooLong)) n) ∙ e
    by false n = let x : None ≡ Some bytes = sym (ap (λ b. whole_of (cond b (Whole all) TooLong)) n) ∙ e in cc

value_same : (p policy : PolicyLists) → ◌≡◌ {A = Result PolicyLists CommandRefusal} (Ok p) (Ok policy) → p ≡ policy
value_same p policy e = cc

says_read : (t : Tree) (path bytes : List ℕ) (policy : PolicyLists) (r : Result PolicyLists PolicyFault) → limited (file_at t path) ≡ Whole bytes → policy_in bytes ≡ r → or_invalid path r ≡ Ok policy → SaysPolicy t path policy
says_read t path bytes policy (Ok p) e is same = record { bytes = bytes; there = bounded_is limit (file_at t path) bytes (ap whole_of e); says = read_says bytes policy (is ∙ ap Ok (value_same p policy same)) }
says_read t path bytes policy (Err (fault.Refused kind member)) e is same = let x : or_invalid path (Err (fault.Refused kind member)) ≡ Ok policy = same in cc
says_read t path bytes policy (Err fault.Memory) e is same = let x : or_invalid path (Err fault.Memory) ≡ Ok policy = same in cc

says : (t : Tree) (path : List ℕ) (policy : PolicyLists) (file : Limited) → limited (file_at t path) ≡ file → policy_from path file ≡ Ok policy → SaysPolicy t path policy
unfolding policy_from
says t path policy Absent e said = let x : policy_from path Absent ≡ Ok policy = said in cc
says t path policy TooLong e said = let x : policy_from path TooLong ≡ Ok policy = said in cc
says t path policy (Whole bytes) e said = says_read t path bytes policy (policy_in bytes) e refl said

says_of : (x : Option Tree) (path : Tree → List ℕ) (policy : PolicyLists) → IfSome x (λ t. Ok policy ≡ policy_file t (path t)) → IfSome x (λ t. SaysPolicy t (path t) policy)
says_of None path policy said = tt
says_of (Some t) path policy said = says t (path t) policy (limited (file_at t (path t))) refl (sym said)

-- the policy that was read is the one that counts
policy_counts : (home cwd : List ℕ) (choice : PolicyChoice) (a b : LaneTold) (policy : PolicyLists) → policy_end home cwd choice a b (Ok policy) → Counts a.files.tree home cwd choice policy
unfolding policy_end
policy_counts home cwd Anything a b policy end = value_same policy accepting end.0
policy_counts home cwd (Named path) a b policy end = says_of a.files.tree (λ t. path) policy end.0
policy_counts home cwd Usual a b policy end = says_of a.files.tree (λ t. usual_path t home cwd policy_name) policy end.0

policy_rests : (home cwd : List ℕ) (choice : PolicyChoice) (a b : LaneTold) (r : Result PolicyLists CommandRefusal) → policy_end home cwd choice a b r → b.files.tree ≡ a.files.tree
unfolding policy_end
policy_rests home cwd choice a b r end = end.1.files

-- ---- the configuration

conf_same : (c d : Settings) → ◌≡◌ {A = Result Settings CommandRefusal} (Ok c) (Ok d) → c ≡ d
conf_same c d e = cc

conf_refuted : (e : CommandRefusal) (c : Settings) → ◌≡◌ {A = Result Settings CommandRefusal} (Err e) (Ok c) → ⊥
conf_refuted e c is = cc

absent_is : (most : ℕ) (file : Option (List ℕ)) → limited_by most file ≡ Absent → file ≡ None
absent_is most None e = refl
absent_is most (Some all) e = by (nat_le (length all) most) e
  where
    by : (b : Bool) → cond b (Whole all) TooLong ≡ Absent → Some all ≡ None
    by true is = let x : Whole all ≡ Absent = is in cc
    by false is = let x : TooLong ≡ Absent = is in cc

conf_read : (t : Tree) (path bytes : List ℕ) (c : Settings) (r : Result Settings ConfFault) → limited (file_at t path) ≡ Whole bytes → conf_in bytes ≡ r → or_bad path r ≡ Ok c → SaysConf t path c
conf_read t path bytes c (Ok d) e is same =
    record { bytes = bytes; there = bounded_is limit (file_at t path) bytes (ap whole_of e); is = conf_says (conf_tree bytes) c (is ∙ ap Ok (conf_same d c same)) }
conf_read t path bytes c (Err d) e is same = absurd (conf_refuted (invalid_conf path d) c same)

conf_named : (t : Tree) (path : List ℕ) (c : Settings) (file : Limited) → limited (file_at t path) ≡ file → conf_from true path file ≡ Ok c → SaysConf t path c
unfolding conf_from
conf_named t path c Absent e said = absurd (conf_refuted (ConfMissing path) c said)
conf_named t path c TooLong e said = absurd (conf_refuted ConfTooLarge c said)
conf_named t path c (Whole bytes) e said = conf_read t path bytes c (conf_in bytes) e refl said

conf_usual : (t : Tree) (path : List ℕ) (c : Settings) (file : Limited) → limited (file_at t path) ≡ file → conf_from false path file ≡ Ok c → MaySay t path c
unfolding conf_from
conf_usual t path c Absent e said = inl (absent_is limit (file_at t path) e, sym (conf_same no_conf c said))
conf_usual t path c TooLong e said = absurd (conf_refuted ConfTooLarge c said)
conf_usual t path c (Whole bytes) e said = inr (conf_read t path bytes c (conf_in bytes) e refl said)

named_of : (x : Option Tree) (path : List ℕ) (c : Settings) → IfSome x (λ t. Ok c ≡ conf_file true t path) → IfSome x (λ t. SaysConf t path c)
named_of None path c said = tt
named_of (Some t) path c said = conf_named t path c (limited (file_at t path)) refl (sym said)

usual_of : (x : Option Tree) (path : Tree → List ℕ) (c : Settings) → IfSome x (λ t. Ok c ≡ conf_file false t (path t)) → IfSome x (λ t. MaySay t (path t) c)
usual_of None path c said = tt
usual_of (Some t) path c said = conf_usual t (path t) c (limited (file_at t (path t))) refl (sym said)

-- the configuration that was read is the one that counts
conf_counts : (home cwd : List ℕ) (choice : ConfChoice) (a b : LaneTold) (c : Settings) → conf_end home cwd choice a b (Ok c) → ConfCounts a.files.tree home cwd choice c
unfolding conf_end
conf_counts home cwd chosen.Unread a b c end = conf_same c no_conf end.0
conf_counts home cwd (chosen.Named path) a b c end = named_of a.files.tree path c end.0
conf_counts home cwd chosen.Usual a b c end = usual_of a.files.tree (λ t. usual_path t home cwd conf_name) c end.0

-- ---- both

rules_same : (r s : Rules) → ◌≡◌ {A = Result Rules CommandRefusal} (Ok r) (Ok s) → r ≡ s
rules_same r s e = cc

rules_refuted : (e : CommandRefusal) (r : Rules) → ◌≡◌ {A = Result Rules CommandRefusal} (Err e) (Ok r) → ⊥
rules_refuted e r is = cc

module _ (home cwd : List ℕ) (task : CopyTask) (rules : Rules) where
  given_is : (policy : PolicyLists) (c : Settings) (s t : LaneTold) (w : Result Rules CommandRefusal) → both policy c s t w → w ≡ Ok rules → rules_of policy c ≡ rules
  unfolding given
  given_is policy c s t w end is = rules_same (rules_of policy c) rules (sym end.1 ∙ is)

  behind : (policy : PolicyLists) (a : LaneTold) → Counts a.files.tree home cwd task.policy policy → (m b : LaneTold) (r : Result Rules CommandRefusal) → m.files.tree ≡ a.files.tree
      → Then (conf_end home cwd task.conf) (λ c. both policy c) m b r → r ≡ Ok rules → RulesCount a.files.tree home cwd task rules
  behind policy a counts m b r same (goes s n t c w one two) is =
      subst (λ v. RulesCount a.files.tree home cwd task v) (given_is policy c n t w two is)
      (record { policy = counts; conf = subst (λ v. ConfCounts v home cwd task.conf c) same (conf_counts home cwd task.conf s n c one) })
  behind policy a counts m b r same (stops s t e one) is = absurd (rules_refuted e rules is)

  counted : (a b : LaneTold) (r : Result Rules CommandRefusal) → Then (policy_end home cwd task.policy) (λ policy. conf_end home cwd task.conf >>= (λ c. both policy c)) a b r → r ≡ Ok rules → RulesCount a.files.tree home cwd task rules
  counted a b r (goes s m t policy w one two) is = behind policy s (policy_counts home cwd task.policy s m policy one) m t w (policy_rests home cwd task.policy s m (Ok policy) one) two is
  counted a b r (stops s t e one) is = absurd (rules_refuted e rules is)

  counts : (a b : LaneTold) → Ends lane_course (rules_end home cwd task) a b (Ok rules) → RulesCount a.files.tree home cwd task rules
  unfolding Ends rules_end
  counts a b end = counted a b (Ok rules) end.ends refl

first_is : (old : List LaneTold) (x : LaneTold) → 0 < length old → slice_index_or old 0 x ≡ x → first_tree old ≡ x.files.tree
first_is [] x some is = absurd (omega (arith, some))
first_is (a ∷ rest) x some is = ap (λ l. l.files.tree) is

-- lanes of which the first has read files alone
pub first_lanes : (old : List LaneTold) (x y : LaneTold) → slice_index_or old 0 x ≡ x → IsQuiet x y → AreLanes old → AreLanes (slice_set old 0 y)
first_lanes old x y is quiet lanes = lanes_later old (slice_set old 0 y) (set_each (λ place a b. IsLater a b) (λ place a. later_same a) old x y is (quiet_later x y quiet)) lanes

-- what was read on the first lane, over all lanes
pub first_reads : (home cwd : List ℕ) (task : CopyTask) (old : List LaneTold) (x y : LaneTold) (runs : Runs) (faults : ℕ) (r : Result Rules CommandRefusal) → 0 < length old → slice_index_or old 0 x ≡ x
    → ReadsAs (rules_end home cwd task) x y r → ReadsFirst home cwd task (seen old runs faults) (seen (slice_set old 0 y) runs faults) r
unfolding lane_course
first_reads home cwd task old x y runs faults r some is reads = record {
  ends = first_set is_memory lane_course (λ a b later. later) (rules_end home cwd task) old x y (record { runs = runs; faults = faults }) r some is reads.ends;
  counts = by r reads.ends;
  quiet = set_each (λ place a b. IsQuiet a b) (λ place a. quiet_same a) old x y is reads.quiet;
  rest = set_keeps old y;
  helper = refl;
  other = reads.other;
}
  where
    by : (r : Result Rules CommandRefusal) → Ends lane_course (rules_end home cwd task) x y r → IfOk r (RulesCount (first_tree old) home cwd task)
    by (Ok rules) end = subst (λ t. RulesCount t home cwd task rules) (sym (first_is old x some is)) (counts home cwd task rules x y end)
    by (Err e) end = tt

-- The policy and the configuration that count, read one after the other.
use Rattle.std.proofs.Common.{List, ℕ, Ok, Err, refl}
use Rattle.skopeo_outside.specs.LaneTold.{LaneTold}
use Rattle.skopeo_outside.specs.LaneLaws.{later_same}
use Rattle.skopeo_outside.specs.Steps.{◌>>=◌, given, Ends}
use Rattle.skopeo_outside.specs.OnLanes.{LaneStep}
use Rattle.skopeo_outside.proofs.StepLemmas.{then_ends, then_stops}
use Rattle.policy_file.specs.PolicyLists.{PolicyLists}
use Rattle.registries_conf.specs.Settings.{Settings}
use Rattle.skopeo_app.specs.declared.refusal.CommandRefusal.{CommandRefusal}
use Rattle.skopeo_app.specs.declared.rules.Rules.{Rules}
use Rattle.skopeo_app.specs.declared.task.CopyTask.{CopyTask}
use Rattle.skopeo_app.specs.Courses.{lane_course}
use Rattle.skopeo_app.specs.Policy.{policy_end}
use Rattle.skopeo_app.specs.Conf.{conf_end}
use Rattle.skopeo_app.specs.Rules.{rules_end}
use Rattle.skopeo_app.specs.Reads.{ReadsAs}
use Rattle.skopeo_app.proofs.ReadLemmas.{quiet_then}

abbrev pub rules_of : PolicyLists → Settings → Rules
rules_of policy conf = record { policy = policy; conf = conf }

-- both were read
abbrev pub both : PolicyLists → Settings → LaneStep CommandRefusal Rules
both policy conf = given (Ok (rules_of policy conf))

module _ (home cwd : List ℕ) (task : CopyTask) where
  -- the policy was refused
  pub policy_refused : (a b : LaneTold) (e : CommandRefusal) → ReadsAs {A = PolicyLists} (policy_end home cwd task.policy) a b (Err e) → ReadsAs (rules_end home cwd task) a b (Err e)
  unfolding rules_end
  policy_refused a b e reads = record {
    ends = then_stops lane_course (policy_end home cwd task.policy) (λ policy. conf_end home cwd task.conf >>= (λ conf. both policy conf)) a b e reads.ends;
    quiet = reads.quiet;
    other = reads.other;
  }

  module _ (policy : PolicyLists) (a m b : LaneTold) (first : ReadsAs (policy_end home cwd task.policy) a m (Ok policy)) where
    -- the configuration was refused behind it
    pub conf_refused : (e : CommandRefusal) → ReadsAs {A = Settings} (conf_end home cwd task.conf) m b (Err e) → ReadsAs (rules_end home cwd task) a b (Err e)
    unfolding rules_end
    conf_refused e reads = record {
      ends = then_ends lane_course (policy_end home cwd task.policy) (λ policy. conf_end home cwd task.conf >>= (λ conf. both policy conf)) a m b policy (Err e) first.ends
          (then_stops lane_course (conf_end home cwd task.conf) (λ conf. both policy conf) m b e reads.ends);
      quiet = quiet_then a m b first.quiet reads.quiet;
      other = reads.other;
    }

    given_ends : (conf : Settings) → Ends lane_course (both policy conf) b b (Ok (rules_of policy conf))
    unfolding Ends given lane_course
    given_ends conf = record { later = later_same b; ends = (refl, refl) }

    -- both were read
    pub rules_read : (conf : Settings) → ReadsAs (conf_end home cwd task.conf) m b (Ok conf) → ReadsAs (rules_end home cwd task) a b (Ok (rules_of policy conf))
    unfolding rules_end
    rules_read conf reads = record {
      ends = then_ends lane_course (policy_end home cwd task.policy) (λ policy. conf_end home cwd task.conf >>= (λ conf. both policy conf)) a m b policy (Ok (rules_of policy conf)) first.ends
          (then_ends lane_course (conf_end home cwd task.conf) (λ conf. both policy conf) m b b conf (Ok (rules_of policy conf)) reads.ends (given_ends conf));
      quiet = quiet_then a m b first.quiet reads.quiet;
      other = tt;
    }

-- What the automaton of components accepts is joined of runs.
use Rattle.std.proofs.Common.{◌≡◌, ℕ, ◌==◌, true, false, List, [], ◌∷◌, ◌++◌, refl, sym, ap, subst, ◌∙◌, arith, inl, inr, length-append, append_assoc, append-nil, codes}
use Rattle.std.proofs.lemmas.Bool.{cases_Bool, eqb-true}
use Rattle.std.specs.List.{fold}
use Rattle.std.proofs.lemmas.List.Sums.{AllPass-from_list_all, list_all-from_AllPass}
use Rattle.std.proofs.lemmas.List.Folds.{list_all-append}
use Rattle.image_ref.specs.Characters.{is_run_byte, dot, dash, underscore}
use Rattle.image_ref.specs.Component.{IsRun, IsDashes, a_dot, one, two, dashes, IsComponent, last, joined}
use Rattle.image_ref.specs.ComponentTest.{reached_after, ends_component, is_component}
use Rattle.image_ref.specs.declared.component.Reached.{Reached}
use Rattle.image_ref.specs.declared.component.Reached.TheVariants.{Boundary, Run, Underscore, Dashes, Broken}
use Rattle.image_ref.proofs.JoinedComponents.{IsLive}

-- what an accepted rest completes
abbrev Completes : Reached → List ℕ → Type 0
Completes Boundary rest = IsComponent rest
Completes Run rest = (run : List ℕ) → IsRun run → IsComponent (run ++ rest)
Completes Underscore rest = (run : List ℕ) → IsRun run → IsComponent (run ++ (underscore ∷ rest))
Completes Dashes rest = (run ds : List ℕ) → IsRun run → IsDashes ds → IsComponent (run ++ (ds ++ rest))
Completes Broken rest = ⊥

one_run : (b : ℕ) → is_run_byte b ≡ true → IsRun (b ∷ [])
one_run b e = record { some = omega arith; bytes = AllPass-from_list_all is_run_byte (b ∷ []) (rw e refl) }

more_run : (run : List ℕ) (b : ℕ) → IsRun run → is_run_byte b ≡ true → IsRun (run ++ (b ∷ []))
more_run run b h e = record {
  some = omega (arith, length-append run (b ∷ []), h.some);
  bytes = AllPass-from_list_all is_run_byte (run ++ (b ∷ [])) (list_all-append is_run_byte run (b ∷ []) ∙ rw (list_all-from_AllPass is_run_byte run h.bytes, e) refl);
}

one_dash : IsDashes (dash ∷ [])
one_dash = record { some = omega arith; bytes = AllPass-from_list_all (λ b. b == dash) (dash ∷ []) refl }

more_dashes : (ds : List ℕ) → IsDashes ds → IsDashes (ds ++ (dash ∷ []))
more_dashes ds h = record {
  some = omega (arith, length-append ds (dash ∷ []), h.some);
  bytes = AllPass-from_list_all (λ b. b == dash) (ds ++ (dash ∷ [])) (list_all-append (λ b. b == dash) ds (dash ∷ []) ∙ rw (list_all-from_AllPass (λ b. b == dash) ds h.bytes) refl);
}

broken_stays : (text : List ℕ) → fold reached_after Broken text ≡ Broken
broken_stays [] = refl
broken_stays (b ∷ rest) = broken_stays rest

no_end : (text : List ℕ) → ends_component (fold reached_after Broken text) ≡ true → ⊥
no_end text h = cc (sym (ap ends_component (broken_stays text)) ∙ h)

-- a step to a state from which the rest completes
after_run : (s : Reached) (b : ℕ) (rest : List ℕ) → is_run_byte b ≡ true → IsLive s → Completes Run rest → Completes s (b ∷ rest)
after_run Boundary b rest e live k = k (b ∷ []) (one_run b e)
after_run Run b rest e live k = λ run h. rw append_assoc at (k (run ++ (b ∷ [])) (more_run run b h e))
after_run Underscore b rest e live k = λ run h. joined run (codes "_") (b ∷ rest) h one (k (b ∷ []) (one_run b e))
after_run Dashes b rest e live k = λ run ds h d. joined run ds (b ∷ rest) h (dashes ds d) (k (b ∷ []) (one_run b e))
after_run Broken b rest e live k = absurd live

from_run : (b : ℕ) (rest : List ℕ) → is_run_byte b ≡ false → ends_component (fold reached_after (reached_after Run b) rest) ≡ true → ((s : Reached) → ends_component (fold reached_after s rest) ≡ true → Completes s rest) → Completes Run (b ∷ rest)
from_run b rest no_run h k =
    elim (cases_Bool (b == dot)) [
      | inl same ↦
          let at_dot = k Boundary (rw (no_run, same) at h) in
          λ run r. rw (eqb-true b dot same) (joined run (codes ".") rest r a_dot at_dot)
      | inr no_dot ↦ elim (cases_Bool (b == underscore)) [
        | inl same ↦
            let at_low = k Underscore (rw (no_run, no_dot, same) at h) in
            λ run r. rw (eqb-true b underscore same) (at_low run r)
        | inr no_low ↦ elim (cases_Bool (b == dash)) [
          | inl same ↦
              let at_dash = k Dashes (rw (no_run, no_dot, no_low, same) at h) in
              λ run r. rw (eqb-true b dash same) (at_dash run (dash ∷ []) r one_dash)
          | inr no_dash ↦ absurd (no_end rest (rw (no_run, no_dot, no_low, no_dash) at h))
        ]
      ]
    ]

from_underscore : (b : ℕ) (rest : List ℕ) → is_run_byte b ≡ false → ends_component (fold reached_after (reached_after Underscore b) rest) ≡ true → ((s : Reached) → ends_component (fold reached_after s rest) ≡ true → Completes s rest) → Completes Underscore (b ∷ rest)
from_underscore b rest no_run h k =
    elim (cases_Bool (b == underscore)) [
      | inl same ↦
          let at_two = k Boundary (rw (no_run, same) at h) in
          λ run r. rw (eqb-true b underscore same) (joined run (codes "__") rest r two at_two)
      | inr other ↦ absurd (no_end rest (rw (no_run, other) at h))
    ]

from_dashes : (b : ℕ) (rest : List ℕ) → is_run_byte b ≡ false → ends_component (fold reached_after (reached_after Dashes b) rest) ≡ true → ((s : Reached) → ends_component (fold reached_after s rest) ≡ true → Completes s rest) → Completes Dashes (b ∷ rest)
from_dashes b rest no_run h k =
    elim (cases_Bool (b == dash)) [
      | inl same ↦
          let at_dash = k Dashes (rw (no_run, same) at h) in
          λ run ds r d. rw (eqb-true b dash same) (subst (λ t. IsComponent (run ++ t)) (append_assoc ds (dash ∷ []) rest) (at_dash run (ds ++ (dash ∷ [])) r (more_dashes ds d)))
      | inr other ↦ absurd (no_end rest (rw (no_run, other) at h))
    ]

from_boundary : (b : ℕ) (rest : List ℕ) → is_run_byte b ≡ false → ends_component (fold reached_after (reached_after Boundary b) rest) ≡ true → Completes Boundary (b ∷ rest)
from_boundary b rest no_run h = absurd (no_end rest (rw no_run at h))

step : (b : ℕ) (rest : List ℕ) (s : Reached) → ends_component (fold reached_after (reached_after s b) rest) ≡ true → ((s : Reached) → ends_component (fold reached_after s rest) ≡ true → Completes s rest) → is_run_byte b ≡ false → Completes s (b ∷ rest)
step b rest Boundary h k e = from_boundary b rest e h
step b rest Run h k e = from_run b rest e h k
step b rest Underscore h k e = from_underscore b rest e h k
step b rest Dashes h k e = from_dashes b rest e h k
step b rest Broken h k e = absurd (no_end rest h)

run_step : (b : ℕ) (rest : List ℕ) (s : Reached) → ends_component (fold reached_after (reached_after s b) rest) ≡ true → ((s : Reached) → ends_component (fold reached_after s rest) ≡ true → Completes s rest) → is_run_byte b ≡ true → Completes s (b ∷ rest)
run_step b rest Boundary h k e = after_run Boundary b rest e tt (k Run (rw e at h))
run_step b rest Run h k e = after_run Run b rest e tt (k Run (rw e at h))
run_step b rest Underscore h k e = after_run Underscore b rest e tt (k Run (rw e at h))
run_step b rest Dashes h k e = after_run Dashes b rest e tt (k Run (rw e at h))
run_step b rest Broken h k e = absurd (no_end rest h)

completes : (text : List ℕ) (s : Reached) → ends_component (fold reached_after s text) ≡ true → Completes s text
completes [] Boundary h = cc h
completes [] Run h = λ run r. rw append-nil (last run r)
completes [] Underscore h = cc h
completes [] Dashes h = cc h
completes [] Broken h = cc h
completes (b ∷ rest) s h =
    elim (cases_Bool (is_run_byte b)) [
      | inl e ↦ run_step b rest s h (completes rest) e
      | inr e ↦ step b rest s h (completes rest) e
    ]

pub is_component-to : (text : List ℕ) → is_component text ≡ true → IsComponent text
unfolding is_component
is_component-to text h = completes text Boundary h

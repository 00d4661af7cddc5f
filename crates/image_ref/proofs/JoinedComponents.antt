-- The automaton of components accepts each text that is joined of runs.
use Rattle.std.proofs.Common.{◌≡◌, ℕ, ◌==◌, true, List, [], ◌∷◌, ◌++◌, refl, ◌∙◌, arith}
use Rattle.std.proofs.lemmas.Bool.{and_parts, eqb-true}
use Rattle.std.specs.List.{list_all, fold}
use Rattle.std.proofs.lemmas.List.Sums.{list_all-from_AllPass, fold-append}
use Rattle.image_ref.specs.Characters.{is_run_byte, dash}
use Rattle.image_ref.specs.Component.{IsRun, IsDashes, IsSeparator, a_dot, one, two, dashes, IsComponent, last, joined}
use Rattle.image_ref.specs.ComponentTest.{reached_after, is_component}
use Rattle.image_ref.specs.declared.component.Reached.{Reached}
use Rattle.image_ref.specs.declared.component.Reached.TheVariants.{Boundary, Run, Underscore, Dashes, Broken}

abbrev pub IsLive : Reached → Type 0
IsLive Broken = ⊥
IsLive _ = Unit {0}

live_run : (s : Reached) (b : ℕ) → IsLive s → is_run_byte b ≡ true → reached_after s b ≡ Run
live_run Boundary b h e = rw e refl
live_run Run b h e = rw e refl
live_run Underscore b h e = rw e refl
live_run Dashes b h e = rw e refl
live_run Broken b h e = absurd h

run_stays : (run : List ℕ) → list_all is_run_byte run ≡ true → fold reached_after Run run ≡ Run
run_stays [] h = refl
run_stays (b ∷ rest) h =
    let p = and_parts (is_run_byte b) (list_all is_run_byte rest) h in
    rw (live_run Run b tt p.0) (run_stays rest p.1)

run_reached : (s : Reached) (run : List ℕ) → IsLive s → IsRun run → fold reached_after s run ≡ Run
run_reached s [] live h = absurd (omega (arith, h.some))
run_reached s (b ∷ rest) live h =
    let p = and_parts (is_run_byte b) (list_all is_run_byte rest) (list_all-from_AllPass is_run_byte (b ∷ rest) h.bytes) in
    rw (live_run s b live p.0) (run_stays rest p.1)

dashes_stay : (text : List ℕ) → list_all (λ b. b == dash) text ≡ true → fold reached_after Dashes text ≡ Dashes
dashes_stay [] h = refl
dashes_stay (b ∷ rest) h =
    let p = and_parts (b == dash) (list_all (λ b. b == dash) rest) h in
    rw (eqb-true b dash p.0) (dashes_stay rest p.1)

dashes_reached : (text : List ℕ) → IsDashes text → fold reached_after Run text ≡ Dashes
dashes_reached [] h = absurd (omega (arith, h.some))
dashes_reached (b ∷ rest) h =
    let p = and_parts (b == dash) (list_all (λ b. b == dash) rest) (list_all-from_AllPass (λ b. b == dash) (b ∷ rest) h.bytes) in
    rw (eqb-true b dash p.0) (dashes_stay rest p.1)

separator_live : (text : List ℕ) → IsSeparator text → IsLive (fold reached_after Run text)
separator_live _ a_dot = tt
separator_live _ one = tt
separator_live _ two = tt
separator_live _ (dashes text h) = rw (dashes_reached text h) tt

accepted_from : (text : List ℕ) → IsComponent text → (s : Reached) → IsLive s → fold reached_after s text ≡ Run
accepted_from _ (last run h) s live = run_reached s run live h
accepted_from _ (joined run separator rest h sep c) s live =
    fold-append reached_after s run (separator ++ rest) ∙ rw (run_reached s run live h) (fold-append reached_after Run separator rest ∙ accepted_from rest c (fold reached_after Run separator) (separator_live separator sep))

pub is_component-from : (text : List ℕ) → IsComponent text → is_component text ≡ true
unfolding is_component
is_component-from text c = rw (accepted_from text c Boundary tt) refl

-- Each step keeps the rule.
use Rattle.std.proofs.Common.{◌≡◌, ◌≢◌, ℕ, ◌+◌, ◌-◌, ◌%◌, ◌^◌, ◌<◌, ◌≤◌, ◌==◌, ◌||◌, Bool, true, false, nat_lt, cond, min, List, [], ◌∷◌, ◌++◌, set, sum_by, refl, sym, ap, ◌∙◌, subst, inl, inr, arith, eq-zero-or-pos, true≢false, zero-le, le_refl}
use Rattle.std.specs.Prelude.{slice_index, slice_set}
use Rattle.std.proofs.lemmas.Bool.Decides.{nat_tests}
use mathlib.Core.Logic.{dite}
use mathlib.Core.Option.{some}
use native.Mathlib.Decide.{ℕ_discrete}
use lib.ListN.{get_elem?}
use Rattle.std.proofs.lemmas.List.Sums.{sum_by_push}
use Rattle.atomic_table.proofs.Lists.{set_else}
use Rattle.location_cache.specs.Seats.{AreDrawn, SawFailed}
use Rattle.atomic_table.specs.Table.{State, Me, keeps, Allows, Splits, Joins}
use Rattle.location_cache.specs.declared.view.View.{View}
use Rattle.location_cache.specs.Rule.{times, none_failed, spent, with_drawn, with_failed, with_seen, left_of, right_of, joined, waiting, Each, Fits, IsKept, Draws, Lowers, Looks}
use Rattle.location_cache.proofs.Totals.{sum_set, le_sum, each_set, each_push, times_push, times_append, once_more, once_up_to, one_has, alone}

abbrev Kept : ℕ → State (Unit {0}) View → Type 0
Kept jobs s = IsKept jobs s.words s.views

spare_drawn : (jobs draws room rest now : ℕ) → 0 < room → (draws - jobs) + rest ≤ 16 → now + room ≡ rest + cond (nat_lt jobs (draws + 1)) 0 room → ((draws + 1) - jobs) + now ≤ 16
spare_drawn jobs draws room rest now here spare e = grind (arith, nat_tests)

own_more : (v : View) (last : ℕ) → ((job : ℕ) → 0 < times job v.failed → 0 < times job v.drawn) → (job : ℕ) → 0 < times job v.failed → 0 < times job (v.drawn ++ last ∷ [])
own_more v last own job here = let o = own job here in omega (arith, times_push job v.drawn last)

pub draws : (jobs slots id : ℕ) (me : Me (Unit {0}) View) → jobs < 2 ^ 32 → me.0.done ≡ false → 0 < me.0.room → Allows (Kept jobs) slots id me 0 (λ n. (n + 1) % 2 ^ 64) (Draws jobs me)
draws jobs slots id me few going room s k _ at _ =
    let v : View = me.0 in
    let d : ℕ = k.draws in
    let w : View = with_drawn jobs (d + 1) v in
    let found : slice_index s.words 0 ≡ d = ap (λ ws. slice_index ws 0) k.words_are in
    let mine = k.each id v at in
    let was : waiting v ≡ v.room = ap (λ b. cond b 0 v.room) going in
    let waits = sum_set waiting s.views id v w at in
    let le = le_sum waiting s.views id v at in
    let spare = k.spare in
    let next : (d + 1) % 2 ^ 64 ≡ d + 1 = omega arith in (
      w,
      keeps,
      tt,
      record {
        draws = d + 1;
        least = k.least;
        words_are = ap (λ ws. slice_set ws 0 ((slice_index ws 0 + 1) % 2 ^ 64)) k.words_are ∙ ap (λ n. n ∷ k.least ∷ []) next;
        drawn = λ job. let t = sum_set (λ u. times job u.drawn) s.views id v w at in let was = k.drawn job in omega (arith, times_push job v.drawn (d + 1), once_more d job);
        below = λ job lt. let t = sum_set (λ u. times job u.failed) s.views id v w at in let b = k.below job lt in omega arith;
        stands = λ ne. let t = sum_set (λ u. times k.least u.failed) s.views id v w at in let b = k.stands ne in omega arith;
        top = k.top;
        rooms = let t = sum_set (λ u. u.room) s.views id v w at in let r = k.rooms in omega arith;
        spare = spare_drawn jobs d v.room (sum_by waiting s.views) (sum_by waiting (set s.views id w)) room spare (omega arith);
        each = each_set (Fits jobs d k.least) (Fits jobs (d + 1) k.least) s.views id w
            (λ u f. record { own = f.own; past = λ y. let p = f.past y in omega arith; seen = f.seen; idle = f.idle })
            k.each
            record { own = own_more v (d + 1) mine.own; past = λ y. grind (arith, nat_tests); seen = mine.seen; idle = λ z. absurd (omega arith) };
      },
      record {
        view = ap (λ n. with_drawn jobs (n + 1) v) (sym found);
        slots = refl;
        greater = λ job here. let t = le_sum (λ u. times job u.drawn) s.views id v at in let b = k.drawn job in let up = once_up_to d job (omega arith) in omega arith;
        few = omega arith;
      },
    )

below_min : (least job x was now old new : ℕ) → job < min least x → (job < least → was ≡ 0) → now + old ≡ was + new → new ≡ old + cond (x == job) 1 0 → now ≡ 0
below_min least job x was now old new lt none e f = grind (arith, nat_tests)

stands_min : (least x top was now old new : ℕ) (m : ℕ) → m ≡ min least x → m ≢ top → (m ≡ least → 0 < was) → now + old ≡ was + new → new ≡ old + cond (x == m) 1 0 → 0 < now
stands_min least x top was now old new m is ne here e f = grind (arith, nat_tests)

other_fails : (x job before now : ℕ) → x ≢ job → now ≡ before + cond (x == job) 1 0 → 0 < now → 0 < before
other_fails x job before now ne is here = grind (arith, nat_tests)

own_failed : (v : View) (x : ℕ) → 0 < times x v.drawn → ((job : ℕ) → 0 < times job v.failed → 0 < times job v.drawn) → (job : ℕ) → 0 < times job (v.failed ++ x ∷ []) → 0 < times job v.drawn
own_failed v x drew own job here = dite (ℕ_discrete x job) (λ e. subst (λ j. 0 < times j v.drawn) e drew)
    (λ ne. own job (other_fails x job _ _ ne (times_push job v.failed x) here))

pub lowers : (jobs slots id : ℕ) (me : Me (Unit {0}) View) (job : ℕ) → 0 < me.0.room → 0 < times job me.0.drawn → Allows (Kept jobs) slots id me 1 (λ n. min n job) (λ _ after. Lowers job me after)
lowers jobs slots id me x room drew s k _ at _ =
    let v : View = me.0 in
    let w : View = with_failed x v in
    let m : ℕ = min k.least x in
    let mine = k.each id v at in
    let top = k.top in (
      w,
      keeps,
      tt,
      record {
        draws = k.draws;
        least = m;
        words_are = ap (λ ws. slice_set ws 1 (min (slice_index ws 1) x)) k.words_are;
        drawn = λ job. let t = sum_set (λ u. times job u.drawn) s.views id v w at in let was = k.drawn job in omega arith;
        below = λ job lt. let t = sum_set (λ u. times job u.failed) s.views id v w at in below_min k.least job x _ _ (times job v.failed) (times job w.failed) lt (k.below job) t (times_push job v.failed x);
        stands = λ ne. let t = sum_set (λ u. times m u.failed) s.views id v w at in
            stands_min k.least x none_failed _ _ (times m v.failed) (times m w.failed) m refl ne (λ same. subst (λ j. 0 < sum_by (λ u. times j u.failed) s.views) (sym same) (k.stands (λ e. ne (same ∙ e)))) t (times_push m v.failed x);
        top = omega arith;
        rooms = let t = sum_set (λ u. u.room) s.views id v w at in let r = k.rooms in omega arith;
        spare = let t = sum_set waiting s.views id v w at in let r = k.spare in omega arith;
        each = each_set (Fits jobs k.draws k.least) (Fits jobs k.draws m) s.views id w
            (λ u f. record { own = f.own; past = f.past; seen = let p = f.seen in omega arith; idle = f.idle })
            k.each
            record { own = own_failed v x drew mine.own; past = mine.past; seen = let p = mine.seen in omega arith; idle = λ z. absurd (omega arith) };
      },
      record { view = refl; slots = refl },
    )

not_below : (least job word total : ℕ) → word ≡ least → 0 < total → (job < least → total ≡ 0) → word ≤ job
not_below least job word total e h zero-below = grind arith

pub looks : (jobs slots id : ℕ) (me : Me (Unit {0}) View) → 0 < me.0.room → Allows (Kept jobs) slots id me 1 (λ n. n) (Looks jobs me)
looks jobs slots id me room s k _ at _ =
    let v : View = me.0 in
    let l : ℕ = k.least in
    let w : View = with_seen l v in
    let found : slice_index s.words 1 ≡ l = ap (λ ws. slice_index ws 1) k.words_are in
    let mine = k.each id v at in (
      w,
      keeps,
      tt,
      record {
        draws = k.draws;
        least = l;
        words_are = ap (λ ws. slice_set ws 1 (slice_index ws 1)) k.words_are;
        drawn = λ job. let t = sum_set (λ u. times job u.drawn) s.views id v w at in let was = k.drawn job in omega arith;
        below = λ job lt. let t = sum_set (λ u. times job u.failed) s.views id v w at in let b = k.below job lt in omega arith;
        stands = λ ne. let t = sum_set (λ u. times l u.failed) s.views id v w at in let b = k.stands ne in omega arith;
        top = k.top;
        rooms = let t = sum_set (λ u. u.room) s.views id v w at in let r = k.rooms in omega arith;
        spare = let t = sum_set waiting s.views id v w at in let r = k.spare in omega arith;
        each = each_set (Fits jobs k.draws l) (Fits jobs k.draws l) s.views id w (λ u f. f) k.each
            record { own = mine.own; past = mine.past; seen = omega arith; idle = λ z. absurd (omega arith) };
      },
      record {
        view = ap (λ n. with_seen n v) (sym found);
        slots = refl;
        low = λ job h.
            let f = le_sum (λ u. times job u.failed) s.views id v at in
            let drew = mine.own job h in
            let le = le_sum (λ u. times job u.drawn) s.views id v at in
            let o = k.drawn job in
            let up = once_up_to k.draws job (omega arith) in
            let spare = k.spare in
            (not_below k.least job (slice_index s.words 1) (sum_by (λ u. times job u.failed) s.views) found (omega arith) (k.below job), omega arith);
        stands = λ whole ne.
            let one = alone (λ u. times l u.failed) refl s.views id v (λ i u e. (k.each i u e).idle) at (k.rooms ∙ sym whole) in
            let some_one = k.stands (λ e. ne (found ∙ e)) in
            subst (λ n. 0 < times n v.failed) (sym found) (omega arith);
        few = λ ne.
            let has = one_has (λ u. times l u.failed) s.views (k.stands (λ e. ne (found ∙ e))) in
            let drew = (k.each has.0 has.1 has.2).own l has.3 in
            let le = le_sum (λ u. times l u.drawn) s.views has.0 has.1 has.2 in
            let o = k.drawn l in
            let up = once_up_to k.draws l (omega arith) in
            let spare = k.spare in omega arith;
      },
    )

-- the sum where a view is cut in two
cut : (f : View → ℕ) (views : List View) (id : ℕ) (v l r : View) → get_elem? views id ≡ some v → f l + f r ≡ f v → sum_by f (set views id l ++ r ∷ []) ≡ sum_by f views
cut f views id v l r at e = let t = sum_set f views id v l at in omega (arith, sum_by_push f (set views id l) r)

pub splits : (jobs id : ℕ) (v : View) → 1 < v.room → Splits (Kept jobs) id v (left_of v) (right_of v)
splits jobs id v room s k at =
    let l : View = left_of v in
    let r : View = right_of v in
    let mine = k.each id v at in
    record {
      draws = k.draws;
      least = k.least;
      words_are = k.words_are;
      drawn = λ job. cut (λ u. times job u.drawn) s.views id v l r at (omega arith) ∙ k.drawn job;
      below = λ job lt. cut (λ u. times job u.failed) s.views id v l r at (omega arith) ∙ k.below job lt;
      stands = λ ne. let e = cut (λ u. times k.least u.failed) s.views id v l r at (omega arith) in let b = k.stands ne in omega arith;
      top = k.top;
      rooms = cut (λ u. u.room) s.views id v l r at (omega arith) ∙ k.rooms;
      spare = let e = cut waiting s.views id v l r at (halves v room) in let b = k.spare in omega arith;
      each = each_push (Fits jobs k.draws k.least) (set s.views id l) r
          (each_set (Fits jobs k.draws k.least) (Fits jobs k.draws k.least) s.views id l (λ u f. f) k.each
          record { own = mine.own; past = mine.past; seen = mine.seen; idle = λ z. absurd (omega arith) })
          record { own = λ job h. absurd (omega arith); past = mine.past; seen = mine.seen; idle = λ z. absurd (omega arith) };
    }
  where
    halves : (v : View) → 1 < v.room → waiting (left_of v) + waiting (right_of v) ≡ waiting v
    halves v room = elim v.done as (λ b. cond b 0 (v.room - 1) + cond b 0 1 ≡ cond b 0 v.room) [ true ↦ refl | false ↦ omega arith ]

-- the sum where a view takes in another
glued : (f : View → ℕ) (views : List View) (id other : ℕ) (v w b : View) → get_elem? views id ≡ some v → get_elem? (set views id b) other ≡ some w
    → f spent ≡ 0 → sum_by f (set (set views id b) other spent) + (f v + f w) ≡ sum_by f views + f b
glued f views id other v w b at there none = let t = sum_set f views id v b at in let u = sum_set f (set views id b) other w spent there in omega arith

pub joins : (jobs id other : ℕ) (v w : View) → 0 < v.room → Joins (Kept jobs) id v other w (joined v w) spent
joins jobs id other v w room s k at apart there =
    let b : View = joined v w in
    let mine = k.each id v at in
    let was : get_elem? s.views other ≡ some w = sym (set_else s.views id other b apart) ∙ there in
    let theirs = k.each other w was in
    record {
      draws = k.draws;
      least = k.least;
      words_are = k.words_are;
      drawn = λ job. let e = glued (λ u. times job u.drawn) s.views id other v w b at there refl in let t = times_append job v.drawn w.drawn in let o = k.drawn job in omega arith;
      below = λ job lt. let e = glued (λ u. times job u.failed) s.views id other v w b at there refl in let t = times_append job v.failed w.failed in let o = k.below job lt in omega arith;
      stands = λ ne. let e = glued (λ u. times k.least u.failed) s.views id other v w b at there refl in let t = times_append k.least v.failed w.failed in let o = k.stands ne in omega arith;
      top = k.top;
      rooms = let e = glued (λ u. u.room) s.views id other v w b at there refl in let o = k.rooms in omega arith;
      spare = let e = glued waiting s.views id other v w b at there refl in let o = k.spare in let n = no_more v w in omega arith;
      each = each_set (Fits jobs k.draws k.least) (Fits jobs k.draws k.least) (set s.views id b) other spent (λ u f. f)
          (each_set (Fits jobs k.draws k.least) (Fits jobs k.draws k.least) s.views id b (λ u f. f) k.each
          record {
            own = λ job h. let t = times_append job v.failed w.failed in let d = times_append job v.drawn w.drawn in
                elim (eq-zero-or-pos (times job v.failed)) [
                  | inl z ↦ (let o = theirs.own job (omega arith) in omega arith)
                  | inr p ↦ (let o = mine.own job p in omega arith)
                ];
            past = either_past v.done w.done mine.past theirs.past;
            seen = let p = mine.seen in let q = theirs.seen in omega arith;
            idle = λ z. absurd (omega arith);
          })
          record { own = λ job h. absurd (omega arith); past = λ y. absurd (true≢false (sym y)); seen = k.top; idle = λ z. refl };
    }
  where
    no_more : (v w : View) → waiting (joined v w) ≤ waiting v + waiting w
    no_more v w = elim v.done as (λ b. cond (b || w.done) 0 (v.room + w.room) ≤ cond b 0 v.room + cond w.done 0 w.room) [
      | true ↦ zero-le
      | false ↦ elim w.done as (λ b. cond b 0 (v.room + w.room) ≤ v.room + cond b 0 w.room) [ true ↦ zero-le | false ↦ le_refl (v.room + w.room) ]
    ]

    either_past : {A : Type 0} (a b : Bool) → (a ≡ true → A) → (b ≡ true → A) → (a || b) ≡ true → A
    either_past true b p q y = p refl
    either_past false b p q y = q y

pub closes : (jobs id : ℕ) (v : View) (s : State (Unit {0}) View) → Kept jobs s → get_elem? s.views id ≡ some v → v.room ≡ 16 → AreDrawn jobs v × SawFailed v
closes jobs id v s k at whole =
    let idle : Each (λ u. u.room ≡ 0 → u ≡ spent) s.views = λ i u e. (k.each i u e).idle in
    let all : sum_by (λ u. u.room) s.views ≡ v.room = k.rooms ∙ sym whole in
    let mine = k.each id v at in (
      record {
        draws = k.draws;
        once = λ job. sym (alone (λ u. times job u.drawn) refl s.views id v idle at all) ∙ k.drawn job;
        past = mine.past;
      },
      λ lower. (
        k.least,
        (let low = mine.seen in let some_one = k.stands (λ e. absurd (omega arith)) in let one = alone (λ u. times k.least u.failed) refl s.views id v idle at all in omega arith),
        mine.seen,
      ),
    )

-- Lanes that are lent, place by place.
use Rattle.std.proofs.Common.{◌≡◌, ◌+◌, List, [], ◌∷◌, ◌++◌, ℕ, zero, suc, length, map, All, Option, Some, None, slice_get, refl, sym, ap, subst, ◌∙◌, append_assoc, length-append, arith}
use Rattle.skopeo_outside.specs.LaneTold.{LaneTold}
use Rattle.transports.specs.declared.source.Source.{Source}
use Rattle.transports.specs.declared.dest.Dest.{Dest}
use Rattle.copy_jobs.specs.Lane.{LaneState, IsSound, IsFresh}
use Rattle.copy_jobs.specs.Lent.{AreFresh, IsLent, AreLent}

pub fresh_more : (source : Source) (dest : Dest) (ls : List LaneTold) (ss : List LaneState) (a : LaneTold) (s : LaneState) → AreFresh source dest ls ss → IsFresh source dest a s → AreFresh source dest (ls ++ a ∷ []) (ss ++ s ∷ [])
fresh_more source dest [] [] a s fresh one = (one, tt)
fresh_more source dest [] (t ∷ ss) a s fresh one = absurd fresh
fresh_more source dest (b ∷ ls) [] a s fresh one = absurd fresh
fresh_more source dest (b ∷ ls) (t ∷ ss) a s fresh one = (fresh.0, fresh_more source dest ls ss a s fresh.1 one)

pub fresh_count : (source : Source) (dest : Dest) (ls : List LaneTold) (ss : List LaneState) → AreFresh source dest ls ss → length ls ≡ length ss
fresh_count source dest [] [] fresh = refl
fresh_count source dest [] (t ∷ ss) fresh = absurd fresh
fresh_count source dest (b ∷ ls) [] fresh = absurd fresh
fresh_count source dest (b ∷ ls) (t ∷ ss) fresh = ap suc (fresh_count source dest ls ss fresh.1)

-- one lane more was lent
pub lent_more : (source : Source) (dest : Dest) (count : ℕ) (lanes middle rest : List LaneTold) (list more : List LaneState) → AreLent source dest count lanes middle list → IsLent source dest middle rest list more → AreLent source dest (count + 1) lanes rest more
lent_more source dest count lanes middle rest list more so one = record {
  first = so.first ++ one.lane ∷ [];
  was = so.was ∙ ap (λ m. so.first ++ m) one.was ∙ sym (append_assoc so.first (one.lane ∷ []) rest);
  count_is = length-append so.first (one.lane ∷ []) ∙ ap (λ n. n + 1) so.count_is;
  fresh = subst (AreFresh source dest (so.first ++ one.lane ∷ [])) (sym one.now) (fresh_more source dest so.first list one.lane one.made so.fresh one.fresh);
}

pub lent_none : (source : Source) (dest : Dest) (lanes : List LaneTold) (list : List LaneState) → list ≡ [] → AreLent source dest 0 lanes lanes list
lent_none source dest lanes list none = record { first = []; was = refl; count_is = refl; fresh = subst (AreFresh source dest []) (sym none) tt }

pub lent_count : (source : Source) (dest : Dest) (count : ℕ) (lanes rest : List LaneTold) (list : List LaneState) → AreLent source dest count lanes rest list → length list ≡ count
lent_count source dest count lanes rest list so = sym (fresh_count source dest so.first list so.fresh) ∙ so.count_is

pub lent_length : (source : Source) (dest : Dest) (count : ℕ) (lanes rest : List LaneTold) (list : List LaneState) → AreLent source dest count lanes rest list → length lanes ≡ count + length rest
lent_length source dest count lanes rest list so = ap length so.was ∙ length-append so.first rest ∙ ap (λ n. n + length rest) so.count_is

-- places
pub at_front : {A : Type 0} (xs ys : List A) (k : ℕ) (a : A) → slice_get xs k ≡ Some a → slice_get (xs ++ ys) k ≡ Some a
at_front [] ys k a e = let no : None ≡ Some a = e in cc
at_front (x ∷ xs) ys zero a e = e
at_front (x ∷ xs) ys (suc k) a e = at_front xs ys k a e

abbrev of_some : {A B : Type 0} → (A → B) → Option A → Option B
of_some f None = None
of_some f (Some y) = Some (f y)

pub at_map : {A B : Type 0} (f : A → B) (xs : List A) (k : ℕ) (a : A) → slice_get xs k ≡ Some a → slice_get (map f xs) k ≡ Some (f a)
at_map f [] k a e = let no : None ≡ Some a = e in cc
at_map f (x ∷ xs) zero a e = ap (of_some f) e
at_map f (x ∷ xs) (suc k) a e = at_map f xs k a e

-- lanes that are given back, the last one first
pub record IsBack (all left : List LaneState) (old new : List LaneTold) : Type 0 where
  pub gone : List LaneState
  pub all_is : all ≡ left ++ gone
  pub back : new ≡ map (λ (s : LaneState). s.lane) gone ++ old
  pub sound : All IsSound gone

pub back_none : (all : List LaneState) (old : List LaneTold) → IsBack all all old old
back_none all old = record { gone = []; all_is = sym (nil all); back = refl; sound = λ k d lt. absurd (omega arith) }
  where
    nil : (t : List LaneState) → t ++ [] ≡ t
    nil [] = refl
    nil (x ∷ t) = ap (λ s. x ∷ s) (nil t)

pub back_more : (all left fewer : List LaneState) (state : LaneState) (old middle new : List LaneTold) → IsBack all left old middle → left ≡ fewer ++ state ∷ [] → IsSound state → new ≡ state.lane ∷ middle → IsBack all fewer old new
back_more all left fewer state old middle new so popped sound put = record {
  gone = state ∷ so.gone;
  all_is = so.all_is ∙ ap (λ l. l ++ so.gone) popped ∙ append_assoc fewer (state ∷ []) so.gone;
  back = put ∙ ap (λ m. state.lane ∷ m) so.back;
  sound = all_sound;
}
  where
    all_sound : All IsSound (state ∷ so.gone)
    all_sound zero d lt = sound
    all_sound (suc k) d lt = so.sound k d (omega arith)

pub back_all : (all left : List LaneState) (old new : List LaneTold) → IsBack all left old new → left ≡ [] → (new ≡ map (λ (s : LaneState). s.lane) all ++ old) × All IsSound all
back_all all left old new so none =
    let same : all ≡ so.gone = so.all_is ∙ ap (λ l. l ++ so.gone) none in
    (so.back ∙ ap (λ l. map (λ (s : LaneState). s.lane) l ++ old) (sym same), subst (All IsSound) (sym same) so.sound)

-- Answers, one after the other.
use Rattle.std.proofs.Common.{◌≡◌, ◌≢◌, ◌∙◌, List, [], ◌∷◌, ◌++◌, ℕ, Bool, true, false, cond, map, filter, append-nil, refl, sym, ap, inl, inr, ◌⊎◌}
use Rattle.std.specs.Str.{bytes_eq}
use Rattle.std.proofs.lemmas.Slice.Eq.{bytes_eq-Decides}
use Rattle.copy_workers.specs.declared.asked.LaneAnswer.{LaneAnswer}
use Rattle.copy_workers.specs.Asked.{Answered, answers_to, Adds}

module _ (digest of : List ℕ) (answer : LaneAnswer) where
  -- where it is of this digest, the last answer comes last
  same_last : bytes_eq of digest ≡ true → (asked : Answered) → map (λ e. e.1) (filter (λ e. bytes_eq e.0 digest) (asked ++ (of, answer) ∷ [])) ≡ map (λ e. e.1) (filter (λ e. bytes_eq e.0 digest) asked) ++ answer ∷ []
  same_last is [] = rw is refl
  same_last is (e ∷ asked) = by (same_last is asked) (bytes_eq e.0 digest) refl
    where
      by : map (λ e. e.1) (filter (λ e. bytes_eq e.0 digest) (asked ++ (of, answer) ∷ [])) ≡ map (λ e. e.1) (filter (λ e. bytes_eq e.0 digest) asked) ++ answer ∷ [] → (b : Bool) → bytes_eq e.0 digest ≡ b → map (λ e. e.1) (filter (λ e. bytes_eq e.0 digest) ((e ∷ asked) ++ (of, answer) ∷ [])) ≡ map (λ e. e.1) (filter (λ e. bytes_eq e.0 digest) (e ∷ asked)) ++ answer ∷ []
      by rest true t = rw t (ap (λ l. e.1 ∷ l) rest)
      by rest false t = rw t rest

  -- else it is none of them
  other_last : bytes_eq of digest ≡ false → (asked : Answered) → map (λ e. e.1) (filter (λ e. bytes_eq e.0 digest) (asked ++ (of, answer) ∷ [])) ≡ map (λ e. e.1) (filter (λ e. bytes_eq e.0 digest) asked)
  other_last is [] = rw is refl
  other_last is (e ∷ asked) = by (other_last is asked) (bytes_eq e.0 digest) refl
    where
      by : map (λ e. e.1) (filter (λ e. bytes_eq e.0 digest) (asked ++ (of, answer) ∷ [])) ≡ map (λ e. e.1) (filter (λ e. bytes_eq e.0 digest) asked) → (b : Bool) → bytes_eq e.0 digest ≡ b → map (λ e. e.1) (filter (λ e. bytes_eq e.0 digest) ((e ∷ asked) ++ (of, answer) ∷ [])) ≡ map (λ e. e.1) (filter (λ e. bytes_eq e.0 digest) (e ∷ asked))
      by rest true t = rw t (ap (λ l. e.1 ∷ l) rest)
      by rest false t = rw t rest

unequal : (a b : List ℕ) → a ≢ b → bytes_eq b a ≡ false
unequal a b apart = by (bytes_eq b a) refl
  where
    by : (v : Bool) → bytes_eq b a ≡ v → bytes_eq b a ≡ false
    by true t = absurd (apart (sym ((bytes_eq-Decides b a).0 t)))
    by false t = t

-- an answer more
pub one_more : (digest : List ℕ) (answer : LaneAnswer) (old : Answered) → Adds digest answer old (old ++ (digest, answer) ∷ [])
unfolding answers_to
one_more digest answer old = record {
  this = same_last digest digest answer ((bytes_eq-Decides digest digest).1 refl) old;
  others = λ other apart. other_last other digest answer (unequal other digest apart) old;
}

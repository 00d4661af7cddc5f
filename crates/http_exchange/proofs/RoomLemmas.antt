-- Bytes that wait between two offsets of a buffer, moved to its front, and more of them received behind.
use Rattle.std.proofs.Common.{◌≡◌, ℕ, ◌+◌, ◌-◌, ◌≤◌, ◌==◌, nat_lt, List, [], ◌∷◌, ◌++◌, length, length-append, length-take, take, drop, Ok, refl, arith, ap, sym, subst, ◌∙◌}
use Rattle.std.proofs.Math.Seq.{paste, take-add}
use Rattle.std.proofs.lemmas.List.{length-drop, drop-take, drop-append-le, take_at}
use Rattle.std.proofs.lemmas.List.Edits.{take-paste}
use Rattle.skopeo_outside.specs.Wire.{Conversations, GoesOn, with_received}
use Rattle.skopeo_outside.proofs.WireLemmas.{append_none}
use Rattle.http_exchange.specs.Received.{Held, Notes, Receives, Filled, NotFilled}
use Rattle.http_exchange.proofs.Rounds.{end_of_count, some_count, no_count}

-- what stood between the offsets is at the front
pub moved_front : (at end : ℕ) (old new : List ℕ) → at ≤ end → end ≤ length old → new ≡ paste old 0 (drop at old) (end - at)
    → take (end - at) new ≡ drop at (take end old)
moved_front at end old new le within is =
    let n = end - at in
    let fits : n ≤ length (drop at old) = omega (arith, length-drop at old, le, within) in
    let back : at + n ≡ end = omega (arith, le) in
    let none : n ≡ 0 + n = omega arith in
    ap (λ (w : List ℕ). take n w) is ∙ ap (λ (k : ℕ). take k (paste old 0 (drop at old) n)) none ∙ take-paste old 0 (drop at old) n (omega arith) fits ∙ sym (drop-take at n old)
    ∙ ap (λ (k : ℕ). drop at (take k old)) back

-- what was received behind the bytes that wait stands there
joined_behind : (waiting room after : List ℕ) (start end count : ℕ) → waiting ≡ drop start (take end room) → take end after ≡ take end room
    → start ≤ end → end + count ≤ length after → drop start (take (end + count) after) ≡ waiting ++ take count (drop end after)
joined_behind waiting room after start end count same front le within =
    let fits : start ≤ length (take end after) = omega (arith, length-take end after, le, within) in
    ap (λ (w : List ℕ). drop start w) (take-add end count after) ∙ drop-append-le start (take end after) (take count (drop end after)) fits
    ∙ ap (λ (w : List ℕ). w ++ take count (drop end after)) (ap (λ (w : List ℕ). drop start w) front ∙ sym same)

length_behind : (after : List ℕ) (end count : ℕ) → end + count ≤ length after → length (take count (drop end after)) ≡ count
length_behind after end count within = omega (arith, length-take count (drop end after), length-drop end after, within)

filled_behind : (before new added : List ℕ) (count : ℕ) → length added ≡ count → new ≡ before ++ added
    → Filled before new (nat_lt 0 count) (before ++ added) (count == 0)
filled_behind before new added count len is = record {
  waits = is;
  end_is = end_of_count count;
  grown = λ e. omega (arith, some_count count e, len, ap (λ (w : List ℕ). length w) is, length-append before added);
  same = λ e. is ∙ ap (λ (w : List ℕ). before ++ w) (no_bytes added (len ∙ no_count count e)) ∙ append_none before;
}
  where
    no_bytes : (xs : List ℕ) → length xs ≡ 0 → xs ≡ []
    no_bytes [] e = refl
    no_bytes (x ∷ xs) e = absurd (omega arith)

-- the bytes between the old end and the new one
pub piece_behind : (items after more : List ℕ) (end count len : ℕ) → items ≡ take len (after ++ more) → length after ≡ len
    → take (end + count - end) (drop end items) ≡ take count (drop end after)
piece_behind items after more end count len is whole =
    let e : end + count - end ≡ count = omega arith in
    ap (λ (k : ℕ). take k (drop end items)) e ∙ ap (λ (w : List ℕ). take count (drop end w)) (is ∙ take_at after more len whole)

-- a piece was received into the room behind the bytes that wait
pub received_behind : {a b : Conversations} (h m : Held) (start end count len : ℕ) (room after more known piece : List ℕ)
    → h.waiting ≡ drop start (take end room) → take end after ≡ take end room → start ≤ end → end + count ≤ length after → length after ≡ len
    → m.waiting ≡ drop start (take (end + count) (take len (after ++ more)))
    → GoesOn (with_received (take count (drop end after)) (count == 0)) a b
    → known ≡ h.first → piece ≡ take count (drop end after) → Notes known piece m.first
    → Receives a b h m (Filled h.waiting m.waiting) (NotFilled h.waiting) (Ok (nat_lt 0 count))
received_behind h m start end count len room after more known piece same front le within whole is told first taken noted = record {
  added = take count (drop end after);
  ended = count == 0;
  told = told;
  noted = subst (λ (w : List ℕ). Notes w (take count (drop end after)) m.first) first (subst (λ (w : List ℕ). Notes known w m.first) taken noted);
  gives = filled_behind h.waiting m.waiting (take count (drop end after)) count (length_behind after end count within)
      (is ∙ ap (λ (w : List ℕ). drop start (take (end + count) w)) (take_at after more len whole)
      ∙ joined_behind h.waiting room after start end count same front le within);
}

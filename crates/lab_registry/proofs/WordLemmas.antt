-- What words ask for.
use Rattle.std.proofs.Common.{◌≡◌, ◌≢◌, ◌<◌, ◌≤◌, ℕ, List, [], ◌∷◌, length, map, get_or, codes, Option, Some, None, Global, subst, sym, refl, arith}
use Rattle.std.specs.declared.string.String.{String}
use Rattle.std.specs.String.{string_bytes}
use Rattle.lab_registry.specs.declared.words.Task.{Task}
use Rattle.lab_registry.specs.declared.words.Task.TheVariants.{Verifier, Registry}
use Rattle.lab_registry.specs.Words.{IsPort, IsCount, Asks, ReadsPort, ReadsCount, ReadsTask}

no_port_asked : (n p k : List ℕ) (task : Task) → ((port : ℕ) → ¬ IsPort p port) → ¬ Asks (n ∷ p ∷ k ∷ []) task
no_port_asked n p k Verifier never asks = let e : (n ∷ p ∷ k ∷ []) ≡ [] = asks in cc
no_port_asked n p k (Registry port count) never asks =
    let e : (n ∷ p ∷ k ∷ []) ≡ (codes "registry" ∷ asks.0 ∷ asks.1 ∷ []) = asks.2 in
    let same : asks.0 ≡ p = cc in
    never port (subst (λ w. IsPort w port) same asks.3)

no_count_asked : (n p k : List ℕ) (task : Task) → ((count : ℕ) → ¬ IsCount k count) → ¬ Asks (n ∷ p ∷ k ∷ []) task
no_count_asked n p k Verifier never asks = let e : (n ∷ p ∷ k ∷ []) ≡ [] = asks in cc
no_count_asked n p k (Registry port count) never asks =
    let e : (n ∷ p ∷ k ∷ []) ≡ (codes "registry" ∷ asks.0 ∷ asks.1 ∷ []) = asks.2 in
    let same : asks.1 ≡ k = cc in
    never count (subst (λ w. IsCount w count) same asks.4)

no_name_asked : (n p k : List ℕ) (task : Task) → n ≢ codes "registry" → ¬ Asks (n ∷ p ∷ k ∷ []) task
no_name_asked n p k Verifier never asks = let e : (n ∷ p ∷ k ∷ []) ≡ [] = asks in cc
no_name_asked n p k (Registry port count) never asks =
    let e : (n ∷ p ∷ k ∷ []) ≡ (codes "registry" ∷ asks.0 ∷ asks.1 ∷ []) = asks.2 in
    let same : n ≡ codes "registry" = cc in
    never same

pub no_name : (n p k : List ℕ) → n ≢ codes "registry" → ReadsTask (n ∷ p ∷ k ∷ []) None
no_name n p k never = record { task = λ task. no_name_asked n p k task never }

pub no_port : (n p k : List ℕ) → ReadsPort p None → ReadsTask (n ∷ p ∷ k ∷ []) None
no_port n p k never = record { task = λ task. no_port_asked n p k task never.port }

pub no_count : (n p k : List ℕ) → ReadsCount k None → ReadsTask (n ∷ p ∷ k ∷ []) None
no_count n p k never = record { task = λ task. no_count_asked n p k task never.count }

pub is_registry : (n p k : List ℕ) (port count : ℕ) → n ≡ codes "registry" → ReadsPort p (Some port) → ReadsCount k (Some count) → ReadsTask (n ∷ p ∷ k ∷ []) (Some (Registry port count))
is_registry n p k port count named is_port is_count = record {
  task = (p, k, subst (λ w. (w ∷ p ∷ k ∷ []) ≡ (codes "registry" ∷ p ∷ k ∷ [])) (sym named) refl, is_port.port, is_count.count);
}

three_texts : (ws : List (String Global)) (a b c : String Global) → length ws ≡ 3 → a ≡ get_or ws 0 a → b ≡ get_or ws 1 b → c ≡ get_or ws 2 c → (string_bytes a ∷ string_bytes b ∷ string_bytes c ∷ []) ≡ map (λ (w : String Global). string_bytes w) ws
three_texts [] a b c three p q r = absurd (omega (arith, three))
three_texts (x ∷ []) a b c three p q r = absurd (omega (arith, three))
three_texts (x ∷ y ∷ []) a b c three p q r = absurd (omega (arith, three))
three_texts (x ∷ y ∷ z ∷ []) a b c three p q r =
    let is_x : a ≡ x = p in
    let is_y : b ≡ y = q in
    let is_z : c ≡ z = r in
    let all : (string_bytes a ∷ string_bytes b ∷ string_bytes c ∷ []) ≡ (string_bytes x ∷ string_bytes y ∷ string_bytes z ∷ []) = cc in all
three_texts (x ∷ y ∷ z ∷ w ∷ ws) a b c three p q r = absurd (omega (arith, three))

pub of_three : (ws : List (String Global)) (a b c : String Global) (n p k : List ℕ) (answer : Option Task) → 3 ≤ length ws → length ws < 4 → a ≡ get_or ws 0 a → b ≡ get_or ws 1 b → c ≡ get_or ws 2 c → n ≡ string_bytes a → p ≡ string_bytes b → k ≡ string_bytes c → ReadsTask (n ∷ p ∷ k ∷ []) answer → ReadsTask (map (λ (w : String Global). string_bytes w) ws) answer
of_three ws a b c n p k answer least most is_a is_b is_c text_n text_p text_k reads =
    let bytes : (n ∷ p ∷ k ∷ []) ≡ (string_bytes a ∷ string_bytes b ∷ string_bytes c ∷ []) = cc in
    subst (λ t. ReadsTask t answer) (three_texts ws a b c (omega (arith, least, most)) is_a is_b is_c) (subst (λ t. ReadsTask t answer) bytes reads)

-- How much is kept of a reply.
use Rattle.std.proofs.Common.{◌≡◌, ◌≤◌, ◌+◌, ℕ, List, Option, Some, None, length, arith, sym, subst}
use Rattle.std.proofs.lemmas.List.{length-take}
use Rattle.skopeo_outside.specs.declared.mem_helper.Reply.{Reply}
use Rattle.skopeo_outside.specs.Replies.{kept_of}

length_kept_of : (limit : ℕ) (reply : Option Reply) → length (kept_of limit reply) ≤ limit + 1
length_kept_of limit None = omega arith
length_kept_of limit (Some r) = let e = length-take (limit + 1) r.answer in omega (arith, e)

-- what is kept is at most one byte more than the limit
pub length_kept : (limit : ℕ) (reply : Option Reply) (answer : List ℕ) → answer ≡ kept_of limit reply → length answer ≤ limit + 1
length_kept limit reply answer e = subst (λ a. length a ≤ limit + 1) (sym e) (length_kept_of limit reply)

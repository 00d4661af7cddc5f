use Rattle.std.proofs.Common.{rules, ◌≡◌, [], ◌∷◌, ◌++◌, sym, subst}
use Rattle.copy_workers.specs.Asked.{Adds, trail_of}
use Rattle.copy_workers.proofs.AskedLemmas.{one_more}
use Rattle.copy_workers.proofs.asked.Asked.note.Goals as goal

pub returns : goal.returns
returns c =
    let is : trail_of c.of-2.result.value ≡ c.args.self.now ++ (c.args.digest, c.args.answer) ∷ [] = search rules in
    subst (λ v. Adds c.args.digest c.args.answer c.args.self.now v) (sym is) (one_more c.args.digest c.args.answer c.args.self.now)

use Rattle.std.proofs.Common.{sym}
use Rattle.manifest_v2s2.proofs.SizeLemmas.{sizes-kept, sizes-added, sizes-same}
use Rattle.manifest_v2s2.proofs.sizes.Sizes.add.Goals as goal

pub returns-then-contains_key-clause-learnt : goal.returns-then-contains_key-clause-learnt
returns-then-contains_key-clause-learnt c = λ known are.
    sizes-kept c.args.self.now known c.args.one are (sym c.if-contains_key.ensures)

pub returns-clause-learnt : goal.returns-clause-learnt
returns-clause-learnt c = λ known are.
    sizes-added c.args.self.now _ known c.args.one are (sym c.if-contains_key.ensures) c.in_ok-insert.ensures.updates

pub returns-in_err-insert-clause-kept : goal.returns-in_err-insert-clause-kept
returns-in_err-insert-clause-kept c = λ known are. sizes-same _ c.args.self.now (record { first = c.insert.new.self }) known are c.in_err-insert.ensures.err

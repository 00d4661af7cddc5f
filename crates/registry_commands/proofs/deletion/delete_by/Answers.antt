use Rattle.std.proofs.Common.{rules}
use Rattle.registry_commands.proofs.DeleteLemmas.{deletion_at}
use Rattle.registry_commands.proofs.deletion.delete_by.Goals as goal

pub returns : goal.returns
returns g c = record {
  ends = deletion_at c.args.conf.now c.args.tls c.args.image.now c.in_ok-mark.mark c.args.lane.now c.delete_at.new.lane c.delete_at.result (search rules) (search rules) c.delete_at.ensures.on c.delete_at.ensures.ends;
}

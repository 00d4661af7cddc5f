use Rattle.registry_commands.proofs.SaidLemmas.{deletion_done, deletion_puts, deletion_later}
use Rattle.registry_commands.proofs.deletion.delete.Goals as goal

pub returns-clause-deleted : goal.returns-clause-deleted
returns-clause-deleted g c =
    deletion_done c.args.conf.now c.args.tls c.args.image.now c.args.lane.now c.delete_by.new.lane c.delete_by.result c.delete_by.ensures.ends

pub returns-clause-no_put : goal.returns-clause-no_put
returns-clause-no_put g c =
    deletion_puts c.args.conf.now c.args.tls c.args.image.now c.args.lane.now c.delete_by.new.lane c.delete_by.result c.delete_by.ensures.ends

pub returns-clause-later : goal.returns-clause-later
returns-clause-later g c =
    deletion_later c.args.conf.now c.args.tls c.args.image.now c.args.lane.now c.delete_by.new.lane c.delete_by.result c.delete_by.ensures.ends

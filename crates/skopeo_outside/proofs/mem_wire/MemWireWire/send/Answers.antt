use Rattle.std.proofs.Common.{length, ◌/◌}
use Rattle.skopeo_outside.proofs.WireLemmas.{sends_first}
use Rattle.skopeo_outside.proofs.mem_wire.MemWireWire.send.Goals as goal

pub returns-in-Err-clause-part : goal.returns-in-Err-clause-part
returns-in-Err-clause-part g c =
    sends_first c.args.bytes.now c.first_half.result.now (length c.args.bytes.now / 2) _ _ c.first_half.ensures c.in_ok-send.ensures.sent

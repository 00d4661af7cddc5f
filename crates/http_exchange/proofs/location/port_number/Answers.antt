use Rattle.std.proofs.Common.{arith, ◌≡◌}
use Rattle.image_ref.specs.Domain.{number}
use Rattle.image_ref.proofs.PortLemmas.{parsed, ok_same, ok_is_no_err}
use Rattle.http_exchange.proofs.LocationLemmas.{port_parts}
use Rattle.http_exchange.proofs.location.port_number.Goals as goal

pub overflow_cast-result : goal.overflow_cast-result
overflow_cast-result c =
    let p = port_parts c.args.digits.now c.requires in
    let e : c.in-Ok.number ≡ number c.args.digits.now
    = ok_same _ _ _ (parsed c.args.digits.now _ c.parse.ensures.value.0 p.digits p.some p.few) c.in-Ok.is in
    omega (arith, e, p.small)

pub returns-in-Ok : goal.returns-in-Ok
returns-in-Ok c =
    let p = port_parts c.args.digits.now c.requires in
    ok_same _ _ _ (parsed c.args.digits.now _ c.parse.ensures.value.0 p.digits p.some p.few) c.in-Ok.is

pub returns-in-Err : goal.returns-in-Err
returns-in-Err c =
    let p = port_parts c.args.digits.now c.requires in
    absurd (ok_is_no_err _ _ _ (parsed c.args.digits.now _ c.parse.ensures.value.0 p.digits p.some p.few) c.in-Err.is)

use Rattle.std.proofs.Common.{rules, ◌≡◌, length}
use Rattle.skopeo_app.proofs.ReadLemmas.{homeless_path}
use Rattle.skopeo_app.proofs.files.usual_path.Goals as goal

pub returns-then-is_empty : goal.returns-then-is_empty
returns-then-is_empty g c =
    let none : length c.args.home.now ≡ 0 = search rules in
    record { reads = homeless_path c.args.home.now c.args.cwd.now c.args.name.now c.args.lane.now c.system_file.result none c.system_file.ensures.path c.system_file.ensures.memory }

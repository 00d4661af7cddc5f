use Rattle.skopeo_app.proofs.CompleteLemmas.{ends_by_tree, good_ends}
use Rattle.skopeo_app.proofs.law.folder_copies.Goals as goal

pub returns : goal.returns
returns c = record { answer = ends_by_tree; good = good_ends }

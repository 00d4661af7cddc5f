-- Where the files of a user and of the system stand (containers-policy.json(5), containers-registries.conf(5), "FILES").
use Rattle.std.specs.Prelude.{◌≡◌, ◌++◌, [], ◌∷◌, List, ℕ, if◌then◌else◌, codes, Result, IfSome}
use Rattle.std.specs.Option.{is_some}
use Rattle.image_ref.specs.Path.{cleaned}
use Rattle.skopeo_outside.specs.Tree.{Tree, file_at}
use Rattle.skopeo_outside.specs.OnLanes.{LaneStep}
use Rattle.skopeo_app.specs.declared.refusal.CommandRefusal.{CommandRefusal}

-- the system's file of a name
abbrev pub system_path : List ℕ → List ℕ
system_path name = codes "/etc/containers/" ++ name

-- the user's
abbrev pub user_path : List ℕ → List ℕ → List ℕ → List ℕ
user_path home cwd name = cleaned cwd ((home ++ codes "/.config/containers/") ++ name)

-- the user's where it is there, else the system's; no user is at home at the empty path
abbrev pub usual_path : Tree → List ℕ → List ℕ → List ℕ → List ℕ
usual_path t [] cwd name = system_path name
usual_path t (c ∷ home) cwd name = if is_some (file_at t (user_path (c ∷ home) cwd name)) then user_path (c ∷ home) cwd name else system_path name

-- what is read of a lane's files, where these are told
abbrev pub by_tree : {A : Type 0} → (Tree → Result A CommandRefusal) → LaneStep CommandRefusal A
by_tree said old new r = IfSome old.files.tree (λ t. r ≡ said t)

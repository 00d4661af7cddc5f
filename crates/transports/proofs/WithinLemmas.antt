-- What happened between two told states happened between wider ones.
use Rattle.skopeo_outside.specs.LaneTold.{LaneTold, IsLater}
use Rattle.skopeo_outside.specs.LaneLaws.{later_then, later_same}
use Rattle.transports.specs.Within.{Within}

pub within_earlier : (R : LaneTold → LaneTold → Type 0) (a b c : LaneTold) → IsLater a b → Within R b c → Within R a c
within_earlier R a b c later w = record { first = w.first; last = w.last; before = later_then a b w.first later w.before; is = w.is; after = w.after }

pub within_later : (R : LaneTold → LaneTold → Type 0) (a b c : LaneTold) → Within R a b → IsLater b c → Within R a c
within_later R a b c w later = record { first = w.first; last = w.last; before = w.before; is = w.is; after = later_then w.last b c w.after later }

pub within_as : (R S : LaneTold → LaneTold → Type 0) → ((x y : LaneTold) → R x y → S x y) → (a b : LaneTold) → Within R a b → Within S a b
within_as R S go a b w = record { first = w.first; last = w.last; before = w.before; is = go w.first w.last w.is; after = w.after }

pub within_now : (R : LaneTold → LaneTold → Type 0) (a b : LaneTold) → R a b → Within R a b
within_now R a b r = record { first = a; last = b; before = later_same a; is = r; after = later_same b }

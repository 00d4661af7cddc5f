-- The pages of help, one of each command and one over all, and the version.
use Rattle.std.specs.Prelude.{ℕ, List, Option, Some, None, codes}
use Rattle.skopeo_words.specs.declared.command.CommandName.{CommandName}
use Rattle.skopeo_words.specs.declared.command.CommandName.TheVariants as name
use Rattle.skopeo_words.specs.declared.help.TheConstants.{OVERVIEW, COPY, SYNC, INSPECT, LIST_TAGS, DELETE, MAKE_IMAGES}

-- the page of a command, or the one over all; what it is stands in `Page`
abbrev pub page_of : Option CommandName → List ℕ
page_of None = OVERVIEW.now
page_of (Some name.Copy) = COPY.now
page_of (Some name.Sync) = SYNC.now
page_of (Some name.Inspect) = INSPECT.now
page_of (Some name.ListTags) = LIST_TAGS.now
page_of (Some name.Delete) = DELETE.now
page_of (Some name.MakeImages) = MAKE_IMAGES.now

-- the name of the tool and its version, as a line
abbrev pub version_line : List ℕ
version_line = codes "skopeo 0.1.0\n"

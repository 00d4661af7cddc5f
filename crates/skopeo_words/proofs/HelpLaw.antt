-- Each page opens with its use, and names the options that are for it: their texts are computed.
use Rattle.std.proofs.Common.{Option, Some, None, refl}
use Rattle.skopeo_words.specs.Help.{page_of}
use Rattle.skopeo_words.specs.Page.{IsOn, NamesOptions}
use Rattle.skopeo_words.specs.declared.command.CommandName.{CommandName}
use Rattle.skopeo_words.specs.declared.command.CommandName.TheVariants.{Copy, Sync, Inspect, ListTags, Delete, MakeImages}
use Rattle.skopeo_words.specs.declared.help.TheConstants.{OVERVIEW, COPY, SYNC, INSPECT, LIST_TAGS, DELETE, MAKE_IMAGES}

overview_names : NamesOptions None OVERVIEW.now
unfolding NamesOptions
overview_names = refl

copy_names : NamesOptions (Some Copy) COPY.now
unfolding NamesOptions
copy_names = refl

sync_names : NamesOptions (Some Sync) SYNC.now
unfolding NamesOptions
sync_names = refl

inspect_names : NamesOptions (Some Inspect) INSPECT.now
unfolding NamesOptions
inspect_names = refl

list_tags_names : NamesOptions (Some ListTags) LIST_TAGS.now
unfolding NamesOptions
list_tags_names = refl

delete_names : NamesOptions (Some Delete) DELETE.now
unfolding NamesOptions
delete_names = refl

make_images_names : NamesOptions (Some MakeImages) MAKE_IMAGES.now
unfolding NamesOptions
make_images_names = refl

pub names_options : (page : Option CommandName) → NamesOptions page (page_of page)
names_options None = overview_names
names_options (Some Copy) = copy_names
names_options (Some Sync) = sync_names
names_options (Some Inspect) = inspect_names
names_options (Some ListTags) = list_tags_names
names_options (Some Delete) = delete_names
names_options (Some MakeImages) = make_images_names

pub is_on : (page : Option CommandName) → IsOn page (page_of page)
unfolding IsOn
is_on None = refl
is_on (Some Copy) = refl
is_on (Some Sync) = refl
is_on (Some Inspect) = refl
is_on (Some ListTags) = refl
is_on (Some Delete) = refl
is_on (Some MakeImages) = refl

use Rattle.std.proofs.Common.{rules, ◌≡◌, ◌∙◌, Err, refl}
use Rattle.copy_engine.proofs.WriteLemmas.{putting_then, signed_leaves, named_leaves, works_none, named_none, works_number, finished}
use Rattle.copy_engine.proofs.write.name_image.Goals as goal

pub returns-in_err-sign_image-clause-written : goal.returns-in_err-sign_image-clause-written
returns-in_err-sign_image-clause-written g c = signed_leaves c.args.ready.now c.args.lane.now c.sign_image.new.lane c.sign_image.ensures.works c.sign_image.ensures.blobs

pub returns-in_err-sign_image-clause-none : goal.returns-in_err-sign_image-clause-none
returns-in_err-sign_image-clause-none g c =
    let is : c.from_residual.result ≡ Err c.in_err-sign_image.field-0.0 = search rules in
    rw is (works_none c.args.ready.now.dest c.args.lane.now c.sign_image.new.lane c.sign_image.ensures.works)

pub put_manifest-requires : goal.put_manifest-requires
put_manifest-requires g c = record { first = works_number c.args.ready.now.dest c.args.lane.now c.sign_image.new.lane c.sign_image.ensures.works ∙ c.requires.first }

pub returns : goal.returns
returns g c =
    let r = c.args.ready.now in
    let x = c.args.lane.now in
    let y = c.sign_image.new.lane in
    let z = c.put_manifest.new.lane in
    let result = c.put_manifest.result in
    let s = c.in_ok-sign_image.ensures in
    let m = c.put_manifest.ensures in
    let d : c.dest-dest.result.now ≡ r.dest = c.dest-dest.ensures.is in
    let b : c.bytes.result.now ≡ r.bytes = c.bytes.ensures.is in
    record {
      ends = putting_then r.dest x y z tt result s.ends (rw d at m.ends);
      finished = finished refl r x y z result c.sign_image.ensures.works s.signed s.alone (rw (d, b) at m.named) (rw d at m.signed) (rw d at m.alone);
      written = named_leaves r x y z result c.sign_image.ensures.works c.sign_image.ensures.blobs (rw d at m.ends) (rw (d, b) at m.writes) (rw d at m.only) (rw d at m.fair) (rw d at m.blobs);
      none = named_none r.dest x y z result c.sign_image.ensures.works (rw d at m.works);
    }

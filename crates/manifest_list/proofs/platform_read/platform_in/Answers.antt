use Rattle.manifest_list.proofs.platform_read.platform_in.Goals as goal

pub returns : goal.returns
returns c =
    let arch = c.at-arch.ensures _ (rw (c.get.ensures, c.requires) at c.read_text.ensures) in
    let os = c.at-os.ensures _ (rw (c.get-2.ensures, c.requires) at c.read_text-2.ensures) in
    c.platform_with.ensures _ (c.both.ensures _ _ arch os)

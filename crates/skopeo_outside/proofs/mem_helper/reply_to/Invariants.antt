use Rattle.std.proofs.Common.{◌≡◌, drop}
use Rattle.skopeo_outside.specs.Replies.{reply_of}
use Rattle.skopeo_outside.proofs.mem_helper.reply_to.Given as goal

abbrev pub invariant-loop-reply : goal.invariant-loop-reply
invariant-loop-reply l = reply_of l.replies l.program l.input ≡ reply_of (drop l.reply-index l.replies) l.program l.input

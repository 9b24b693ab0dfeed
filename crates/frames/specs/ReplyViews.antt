-- A reply as a plain value.
use Rattle.frames.specs.Replies.{ReplyValue}
use Rattle.frames.specs.declared.reply.Reply.{Reply}

abbrev pub reply_value : Reply → ReplyValue
reply_value reply = record { status = reply.status; output = reply.output.now; error = reply.error.now; files = reply.files.now }

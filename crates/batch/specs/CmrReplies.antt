-- The replies of cmr to requests.
use Rattle.cmr_tools.specs.ToolOrders.{order, ordered}
use Rattle.batch.specs.RequestReplies.{IsReplyTo}
use Rattle.serving.specs.Exchanges.{Rule}

-- the replies to what the words order
abbrev pub cmr_rule : Rule
cmr_rule words files reply = IsReplyTo (ordered (order words)) files reply

pub mod RequestReplies
pub mod CmrReplies
pub mod Conversations

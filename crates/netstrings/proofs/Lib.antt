pub mod NetstringLemmas

pub mod runs
pub mod interleaving
pub mod logs
pub mod k2_documents
pub mod k3_answers
pub mod k4_cleanup
pub mod k5_updates
pub mod k6_once

pub mod HubChanged
pub mod HubEvents
pub mod HubGave
pub mod HubTook
pub mod Mail
pub mod Opening
pub mod Stuck
pub mod Workers

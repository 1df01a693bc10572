pub mod ElementCodes
pub mod ElementSites
pub mod KnowledgeSites
pub mod NumberedSites
pub mod RequestSites
pub mod ResponseSites

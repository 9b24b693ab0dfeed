pub mod CutEnds
pub mod FitForms
pub mod PivotedSides
pub mod DecidedLines
pub mod UnfitPaths
pub mod ShorterPaths
pub mod BoundedPivots
pub mod FirstPlaces

pub mod FitForms
pub mod PivotedSides
pub mod UnfitPaths
pub mod ShorterPaths

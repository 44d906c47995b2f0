pub mod TextsGrow
pub mod Growing
pub mod Reports
pub mod RelaySteps
pub mod RelayTextsGrow
pub mod RelayGrowing
pub mod Belows
pub mod Knowns

pub mod Situation
pub mod SituationLaws
pub mod Rules
pub mod Effects
pub mod Small
pub mod Over
pub mod PurchaseLaws
pub mod WorkedPurchases

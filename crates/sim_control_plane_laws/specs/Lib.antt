pub mod PlaneLaws
pub mod SparingLaws

pub mod Rule
pub mod GatheredReports

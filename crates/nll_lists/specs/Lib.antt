pub mod Lists
pub mod CutText
pub mod ScheduleText
pub mod ScheduleLines

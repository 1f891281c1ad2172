-- worked sections with what code keeps of them
pub mod Worked
pub mod Arming

pub mod Laws
mod EachAgent
mod EachForwarded
